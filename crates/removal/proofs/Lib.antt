pub mod Marked
pub mod Closing
pub mod Dropped
pub mod Deleting
