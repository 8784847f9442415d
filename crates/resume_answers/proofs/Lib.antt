pub mod Asked
pub mod Looking
