pub mod Played
pub mod Writes
