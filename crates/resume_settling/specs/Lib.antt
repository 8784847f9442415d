pub mod Finding
pub mod Opening
pub mod Choosing
pub mod Replies
pub mod Settling
pub mod Judgements
