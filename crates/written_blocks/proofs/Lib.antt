pub mod Loops
pub mod Words
pub mod Counts
pub mod MarkLists
