pub mod Groups
pub mod Readers
pub mod Encodings
pub mod Writers
