pub mod Reader
pub mod Resolving
pub mod SwnText
