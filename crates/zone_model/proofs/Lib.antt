pub mod Histories
pub mod Found
pub mod Passing
pub mod Fronts
pub mod Sends
pub mod Sweeps
pub mod Deeds
pub mod Refused
pub mod FirstRows
pub mod Reached
pub mod Ranges
pub mod Counts
pub mod OneCounted
pub mod Limits
pub mod ZoneLaws
pub mod KeptHistories
pub mod LocalFacts
pub mod Merging
pub mod ExampleDrive
mod ZoneExamples
mod RefusalExamples
mod EntryExamples
mod EventExamples
mod ReportExamples
mod SessionExamples
