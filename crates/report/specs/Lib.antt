pub mod Report
pub mod Reporting
pub mod Leading
pub mod Statements
