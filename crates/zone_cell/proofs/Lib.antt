pub mod Blocks
pub mod Laid
pub mod Views
pub mod Cells
pub mod Pieces
