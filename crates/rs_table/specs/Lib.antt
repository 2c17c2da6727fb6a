pub mod IndexedRows
pub mod IndexedRowsInside
pub mod Table
