-- What the contracts of the gate program cite.
pub mod Answered
pub mod Shown
