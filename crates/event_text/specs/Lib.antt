pub mod Grammar
pub mod Reading
pub mod Input
pub mod InMemory
pub mod EventFile
pub mod Pieces
