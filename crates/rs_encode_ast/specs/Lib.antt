pub mod Clauses
pub mod Queries
pub mod Statements
pub mod Entries
pub mod BoundParts
