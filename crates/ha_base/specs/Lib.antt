pub mod Faults
pub mod IdForms
pub mod KeySizes
pub mod MemoryStreams
pub mod OctetArray
pub mod Octets
pub mod Services
