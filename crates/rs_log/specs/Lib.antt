pub mod Calls
pub mod Format
pub mod Gated
pub mod Laws
pub mod Runs
