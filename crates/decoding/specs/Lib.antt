pub mod Decode
pub mod Parsed
pub mod Encode
pub mod Statements
