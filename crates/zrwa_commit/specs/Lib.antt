pub mod Least
pub mod Windows
