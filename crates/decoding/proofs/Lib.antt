pub mod DecodeLaws
pub mod RoundTrip
pub mod Samples
pub mod KindsDecoded
pub mod Uncarried
pub mod Rows
pub mod Tested
