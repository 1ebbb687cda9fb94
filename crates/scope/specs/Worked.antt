-- Cases and limits of document 01, computed by the checker.
pub mod Cases
pub mod Guards
pub mod Columns
pub mod Bounds
pub mod Lent
pub mod Versions
