pub mod Inner
pub mod Chosen
pub mod Asked
