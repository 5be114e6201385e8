pub mod Using
pub mod Rooms
pub mod Verdicts
