pub mod Answers
pub mod Arrivals
pub mod Drafts
pub mod Errors
pub mod Held
pub mod Sending
pub mod TicketLaws
pub mod TicketMessages
