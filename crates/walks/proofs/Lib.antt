pub mod Linking
pub mod Following
