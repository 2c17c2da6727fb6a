pub mod Entries
pub mod Inside
pub mod ReportText
pub mod Sites
