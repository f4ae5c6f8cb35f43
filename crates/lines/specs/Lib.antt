pub mod Lines
pub mod Replied
pub mod LinesLaws
pub mod Written
pub mod WrittenLaws
