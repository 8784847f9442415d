pub mod Openings
pub mod Packets
pub mod Plaintexts
pub mod SealedPackets
pub mod Seals
