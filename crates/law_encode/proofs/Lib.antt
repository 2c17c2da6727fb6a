pub mod Costs
pub mod Counts
pub mod Paid
pub mod Parts
pub mod Clauses
pub mod Queries
pub mod Statements
pub mod Whole
