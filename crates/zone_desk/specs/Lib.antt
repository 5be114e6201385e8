pub mod Parts
pub mod Serving
pub mod Rules
pub mod Sights
pub mod Ahead
pub mod Plays
pub mod Passes
