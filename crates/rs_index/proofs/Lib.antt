pub mod LawLemmas
pub mod Parts
pub mod Ranges
pub mod Results
pub mod TextLaws
