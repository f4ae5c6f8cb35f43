pub mod Keys
pub mod RenewAccess
pub mod Changed
