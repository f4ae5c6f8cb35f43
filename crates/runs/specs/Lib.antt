pub mod Runs
pub mod RunsLaws
