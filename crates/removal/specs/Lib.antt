pub mod Dropping
pub mod Freeing
pub mod TreeChecked
