pub mod Closing
pub mod Endings
pub mod Jobs
pub mod Outside
pub mod Statuses
pub mod Streaming
pub mod Writes
