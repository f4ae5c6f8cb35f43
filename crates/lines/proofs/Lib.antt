pub mod WrittenPart
pub mod AnswersWritten
