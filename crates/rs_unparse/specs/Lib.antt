pub mod Unparsed
pub mod Printed
