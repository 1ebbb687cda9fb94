pub mod Naming
pub mod Refused
pub mod Repeats
