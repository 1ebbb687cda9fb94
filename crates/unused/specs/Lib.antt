pub mod Alike
pub mod Twins
pub mod Steps
pub mod Walks
pub mod Starts
