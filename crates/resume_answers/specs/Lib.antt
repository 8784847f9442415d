pub mod Unspent
pub mod Octets
pub mod Members
