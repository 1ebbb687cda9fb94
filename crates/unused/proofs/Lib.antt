pub mod Statements
pub mod Examples
pub mod Starts
