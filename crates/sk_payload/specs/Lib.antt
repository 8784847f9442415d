pub mod Answers
pub mod Framed
pub mod Front
pub mod HeldFrame
pub mod Laws
pub mod Message
