pub mod Counting
pub mod Facts
pub mod LawLemmas
pub mod PartSteps
pub mod Played
pub mod Ranges
pub mod Tests
