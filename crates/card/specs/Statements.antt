-- What is promised of the rules: each statement is true or false of them. That they are true is proved in crates/guarantees, each as the theorem of its
-- name, as in `secrecy : Secrecy`. Under a wrong rule one of them is false, and is proved so (must-fail/).
pub mod Refusals
pub mod Sound
pub mod Unallocated
pub mod Sweeping
pub mod Ledger
pub mod Runs
pub mod Keys
pub mod Windows
pub mod Trees
pub mod Secrecy
pub mod Rent
pub mod Safe
pub mod Trials
