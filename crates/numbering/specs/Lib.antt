pub mod Equal
pub mod Slots
pub mod Ways
pub mod Numbered
pub mod Repeats
pub mod Trees
pub mod Refused
pub mod Given
