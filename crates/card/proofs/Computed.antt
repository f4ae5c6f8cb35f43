-- What the theorems say of given cards and calls, computed. A wrong rule is shown to make a theorem false by the row that it turns from true to false.
-- Nothing here rests on what the rules say, so that it is checked anew under each wrong one.
pub mod Same
pub mod TestLaws
pub mod Row
pub mod SoundLaws
pub mod Bounds
pub mod Refusals
pub mod Sound
pub mod Unallocated
pub mod Secrecy
pub mod Sweeping
pub mod Ledger
pub mod Rent
pub mod Runs
pub mod Trees
pub mod Keys
pub mod Windows
pub mod Trials
pub mod Rows
pub mod TrialRows
