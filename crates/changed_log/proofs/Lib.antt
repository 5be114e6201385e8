pub mod Ranges
pub mod Marked
pub mod FirstBlocks
pub mod Noting
