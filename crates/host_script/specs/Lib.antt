pub mod Lines
pub mod Spelling
pub mod ScriptRules
pub mod Scripts
pub mod Serving
