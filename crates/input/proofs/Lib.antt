pub mod PlayLaws
pub mod FoundLaws
pub mod ArrivalsLaws
pub mod PerformedLaws
pub mod PlayedLaws
pub mod SameTables
pub mod Rows
pub mod Tested
