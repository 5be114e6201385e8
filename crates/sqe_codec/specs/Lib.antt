pub mod Commands
pub mod Reading
pub mod Ranges
pub mod Writing
