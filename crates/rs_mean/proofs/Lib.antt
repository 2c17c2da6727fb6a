pub mod Idle
pub mod Meanings
pub mod Orders
pub mod Selects
mod Written
