pub mod Outcomes
pub mod Tallies
pub mod Books
pub mod Following
