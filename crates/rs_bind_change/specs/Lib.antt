pub mod Binding
pub mod Denials
