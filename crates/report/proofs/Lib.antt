pub mod ReportLaws
pub mod LeadingLaws
pub mod Examples
pub mod Listed
pub mod Reported
pub mod Tests
pub mod Rows
pub mod Tested
