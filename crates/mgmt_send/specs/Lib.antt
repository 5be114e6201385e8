pub mod Sweeping
pub mod Acting
