pub mod LeastLemmas
pub mod Granules
