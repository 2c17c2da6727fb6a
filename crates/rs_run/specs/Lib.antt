pub mod Refusal
pub mod Run
pub mod SourceReader
