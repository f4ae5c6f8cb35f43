pub mod Giving
pub mod Listing
pub mod Beginning
pub mod Marking
pub mod Answering
