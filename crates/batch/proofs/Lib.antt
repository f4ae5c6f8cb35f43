pub mod AnswerBytesLaws
pub mod Answered
pub mod TurnServed
pub mod Serving
