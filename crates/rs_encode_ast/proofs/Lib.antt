pub mod BoundParts
pub mod Clauses
pub mod Entries
pub mod Queries
pub mod Statements
