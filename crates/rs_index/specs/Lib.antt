pub mod Bounds
pub mod Index
pub mod IndexInside
pub mod IntPairs
pub mod Pairs
pub mod Satisfying
pub mod TextPairs
