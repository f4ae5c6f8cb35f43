pub mod Filler
pub mod Arms
