pub mod Statements
pub mod AnswerRanges
pub mod Gate
pub mod Judged
pub mod Ranges
