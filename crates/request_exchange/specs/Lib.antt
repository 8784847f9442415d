pub mod Given
pub mod Rooms
