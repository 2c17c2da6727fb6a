pub mod Limits
pub mod Message
pub mod Reader
pub mod Written
