pub mod Done
pub mod Marks
pub mod Logs
pub mod Outcomes
pub mod TallyCounts
pub mod Posting
pub mod Books
