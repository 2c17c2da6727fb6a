pub mod Separating
pub mod Sites
pub mod Steps
pub mod Whole
