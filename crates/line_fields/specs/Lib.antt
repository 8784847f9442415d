pub mod Words
pub mod Writing
pub mod Numbers
pub mod Octets
pub mod Identities
pub mod Fields
pub mod Faults
