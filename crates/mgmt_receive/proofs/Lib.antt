pub mod Given
pub mod Built
