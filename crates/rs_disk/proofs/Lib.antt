pub mod Answers
pub mod Crashes
pub mod Images
pub mod Kept
pub mod Puts
