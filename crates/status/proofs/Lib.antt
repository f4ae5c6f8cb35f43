pub mod Ticked
pub mod Rounding
