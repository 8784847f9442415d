pub mod Aes
pub mod Columns
pub mod Gcm
pub mod HashTables
pub mod HeldKey
pub mod NamedKey
pub mod Sealing
