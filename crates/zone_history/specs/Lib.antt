pub mod Histories
pub mod Admitted
pub mod Moves
