pub mod Decisions
pub mod Loops
pub mod Readings
