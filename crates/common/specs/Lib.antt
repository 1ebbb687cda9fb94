pub mod Answers
pub mod Kinds
pub mod Lines
pub mod Puts
pub mod Refused
pub mod Rows
