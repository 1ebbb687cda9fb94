pub mod InRange
pub mod Judged
pub mod Ranges
pub mod Gate
pub mod AnswerRanges
