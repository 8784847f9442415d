pub mod Tickets
pub mod Answers
pub mod Laws
