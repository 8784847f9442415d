pub mod Hmac
pub mod PrfPlus
pub mod Keys
pub mod Codes
