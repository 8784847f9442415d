pub mod Messages
pub mod Pieces
pub mod Showing
pub mod Shows
