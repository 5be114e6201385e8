pub mod Links
pub mod Loops
pub mod Fails
pub mod Shadows
pub mod Asking
pub mod Hosts
pub mod Pumping
