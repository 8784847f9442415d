pub mod Drops
pub mod Lines
pub mod LineRanges
pub mod Spelling
pub mod TurnLines
pub mod Report
