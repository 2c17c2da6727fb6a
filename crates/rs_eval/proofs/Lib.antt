pub mod IntegerLaws
mod Matching
pub mod Sets
pub mod Unfilled
mod UpdatedRows
