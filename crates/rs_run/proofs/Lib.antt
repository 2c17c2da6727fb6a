pub mod FewEvents
pub mod ReadSource
pub mod ReadingOf
pub mod RefusalLaws
pub mod ReplayWord
pub mod RunLaws
