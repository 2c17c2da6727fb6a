pub mod Reserved
pub mod Token
pub mod Tokens
pub mod Scanning
