pub mod Halves
pub mod OneCommand
pub mod CommandRanges
