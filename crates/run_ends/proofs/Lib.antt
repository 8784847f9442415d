mod AskedLaws
pub mod Acting
pub mod Asking
pub mod Bounds
pub mod Events
pub mod Holding
pub mod KeptLaws
pub mod MessageBounds
pub mod Messages
pub mod Performing
pub mod Seats
pub mod ShortKept
pub mod Syncing
pub mod TurnLaws
pub mod Verdicts
