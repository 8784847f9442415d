pub mod Inside
pub mod Ready
pub mod Reaches
pub mod Stops
