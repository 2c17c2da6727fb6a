pub mod Outcome
pub mod Over
pub mod Params
pub mod Section
pub mod Path
