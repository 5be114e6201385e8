pub mod Counting
pub mod Less
pub mod Underway
pub mod Outcomes
pub mod Lent
