pub mod Words
pub mod Serving
pub mod Keeping
pub mod Trying
pub mod Replies
pub mod Jobs
pub mod Sessions
