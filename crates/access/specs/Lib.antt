pub mod Accessible
pub mod AccessibleLaws
