pub mod Associations
pub mod Genuine
pub mod KeptTickets
pub mod Messages
pub mod Slots
