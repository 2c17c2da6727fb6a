pub mod Clauses
pub mod Filling
pub mod Integers
pub mod RowChanges
pub mod Setting
pub mod Updating
