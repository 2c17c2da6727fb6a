pub mod IndexLaws
pub mod RowLaws
pub mod SortedKeys
