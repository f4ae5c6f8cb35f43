pub mod BlockTests
pub mod Ends
pub mod Passing
pub mod Tallying
pub mod Whole
