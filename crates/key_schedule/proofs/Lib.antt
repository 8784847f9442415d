pub mod Prefixes
pub mod Parts
pub mod Differences
pub mod KeySizes
