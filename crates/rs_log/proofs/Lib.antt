pub mod Back
pub mod Forces
pub mod Gains
pub mod Openings
pub mod Runs
pub mod Scans
pub mod Stops
