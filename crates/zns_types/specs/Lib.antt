pub mod Rows
pub mod Statuses
pub mod States
pub mod Geometry
pub mod Rules
pub mod Fields
