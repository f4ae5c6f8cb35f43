pub mod Points
pub mod Creating
pub mod Deleting
