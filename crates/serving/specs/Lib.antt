pub mod Serve
pub mod Held
pub mod Statements
