pub mod Keeping
pub mod Loops
pub mod SizeLaws
pub mod Steps
