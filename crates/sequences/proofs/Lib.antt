pub mod CallsSafe
pub mod CallsSecret
pub mod Rows
pub mod Tested
