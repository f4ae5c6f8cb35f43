pub mod Parts
pub mod Stored
