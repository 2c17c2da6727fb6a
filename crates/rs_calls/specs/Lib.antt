pub mod Calls
pub mod Changes
pub mod Limits
pub mod Programs
pub mod Replies
pub mod Sections
