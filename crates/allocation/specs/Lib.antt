pub mod Walk
pub mod Taking
pub mod SharedChecks
pub mod RunChecked
