pub mod Lines
pub mod Limits
pub mod Faults
pub mod Taking
pub mod Readers
