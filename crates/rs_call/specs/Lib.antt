pub mod Callee
pub mod Caller
pub mod Course
pub mod Laws
