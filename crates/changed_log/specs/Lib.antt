pub mod Logs
pub mod Marks
