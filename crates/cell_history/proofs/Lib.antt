pub mod Marks
pub mod Lists
pub mod Shapes
pub mod Follows
pub mod OfDrive
