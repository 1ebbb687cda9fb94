pub mod Steps
pub mod Sound
pub mod Computed
pub mod Refuted
pub mod Cases
pub mod Witnesses
pub mod Rows
pub mod Statements
