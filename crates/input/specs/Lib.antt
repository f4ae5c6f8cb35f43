pub mod Play
pub mod Found
pub mod Arrivals
pub mod Performed
pub mod Played
pub mod Statements
