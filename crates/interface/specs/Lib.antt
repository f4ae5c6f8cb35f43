pub mod Functions
pub mod FunctionsLaws
pub mod Batch
pub mod BatchLaws
