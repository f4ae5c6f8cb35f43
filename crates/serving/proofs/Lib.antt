pub mod Batches
pub mod LoopPerforms
pub mod PlaySafe
pub mod BytesSafe
pub mod BytesSecret
pub mod BytesExample
pub mod Rows
pub mod Tested
