pub mod Sequence
pub mod Statements
