pub mod AsWritten
pub mod Binding
pub mod Entries
pub mod Laws
