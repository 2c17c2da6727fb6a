pub mod FirstDenials
pub mod Positions
pub mod Zipped
