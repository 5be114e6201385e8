pub mod Blocks
pub mod Shown
pub mod ZoneRows
pub mod Deeds
pub mod Aims
pub mod Tables
pub mod Reports
