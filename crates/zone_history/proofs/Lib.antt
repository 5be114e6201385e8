pub mod Steps
pub mod Transitions
pub mod Ways
pub mod Multiples
pub mod Stands
pub mod PointerSteps
pub mod Standing
pub mod Pointers
pub mod PointersMove
pub mod PointersLeast
pub mod Committed
pub mod Laws
pub mod Taking
pub mod Needs
pub mod Windows
mod Examples
