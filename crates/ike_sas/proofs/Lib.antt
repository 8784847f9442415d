pub mod Asked
pub mod Drafts
pub mod Headers
pub mod Reading
pub mod Synchronisations
pub mod Synchronised
pub mod TicketSizes
pub mod Windows
