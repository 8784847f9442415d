pub mod Draws
pub mod Telling
