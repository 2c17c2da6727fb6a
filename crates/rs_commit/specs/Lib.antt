pub mod Coordinator
pub mod Decisions
pub mod Laws
pub mod Play
pub mod Subordinate
