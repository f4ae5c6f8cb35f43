pub mod Release
pub mod Freed
