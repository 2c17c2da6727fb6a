pub mod Calls
pub mod Changes
pub mod Within
pub mod Programs
pub mod Replies
pub mod Sections
