pub mod Contents
pub mod IssuedTickets
pub mod Openings
pub mod Parts
