pub mod Scans
pub mod Splits
pub mod Options
pub mod TokenLaws
