pub mod Counted
pub mod Search
pub mod Shift
pub mod Merging
pub mod Overlay
