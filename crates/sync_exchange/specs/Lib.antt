pub mod Notifications
pub mod Counters
pub mod Answers
pub mod Laws
