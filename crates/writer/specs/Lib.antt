pub mod Puts
pub mod Wrote
pub mod Lines
pub mod Sections
pub mod Writing
