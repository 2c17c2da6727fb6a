pub mod Pending
pub mod Settling
