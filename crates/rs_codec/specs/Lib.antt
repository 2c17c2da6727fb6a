pub mod Laws
pub mod Reader
pub mod Encoding
pub mod Written
