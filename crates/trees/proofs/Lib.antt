pub mod Starting
pub mod Remaining
pub mod Releasing
pub mod Dropping
pub mod Spreading
pub mod Freeing
