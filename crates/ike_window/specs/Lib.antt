pub mod Asking
pub mod Kept
pub mod Laws
pub mod Requests
pub mod Slots
pub mod Stored
pub mod Windows
