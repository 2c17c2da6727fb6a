pub mod Said
mod Rooms
pub mod Asked
pub mod FirstPart
pub mod Lawful
pub mod NoOutput
pub mod Pending
pub mod Planning
pub mod Sorts
pub mod Acceptance
