pub mod Parts
pub mod Values
pub mod Stop
pub mod Answers
pub mod Operands
pub mod Items
pub mod Rows
pub mod Codes
