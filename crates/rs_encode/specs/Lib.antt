pub mod Form
pub mod Variants
pub mod Values
