pub mod Cases
pub mod Forms
pub mod Lists
pub mod Loops
pub mod Numbers
pub mod Values
