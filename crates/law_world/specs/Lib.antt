pub mod Answered
pub mod Explains
pub mod Stores
