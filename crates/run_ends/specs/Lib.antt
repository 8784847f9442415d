pub mod Acting
pub mod Arrivals
pub mod Asked
pub mod Parties
pub mod Refusals
pub mod Runs
