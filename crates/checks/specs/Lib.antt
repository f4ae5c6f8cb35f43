pub mod Checked
pub mod CheckedLaws
