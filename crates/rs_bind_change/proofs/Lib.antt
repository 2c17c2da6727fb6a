pub mod Pairs
pub mod SetDenials
