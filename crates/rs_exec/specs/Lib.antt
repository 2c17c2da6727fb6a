pub mod Fit
pub mod Pages
pub mod Paths
pub mod Reads
pub mod Room
pub mod RowEntry
pub mod Running
