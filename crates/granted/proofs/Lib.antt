pub mod Steps
pub mod Refusals
pub mod Walks
pub mod Granted
pub mod FirstBreak
pub mod LimitsOnly
pub mod Statements
