pub mod Leads
pub mod Passing
