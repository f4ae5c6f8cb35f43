pub mod KindsLaws
pub mod ArithmeticLaws
pub mod AllKinds
pub mod AllKindsLaws
pub mod Rows
pub mod Tested
