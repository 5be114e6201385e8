pub mod Finding
pub mod Judging
pub mod Uses
pub mod Making
pub mod Verdicts
