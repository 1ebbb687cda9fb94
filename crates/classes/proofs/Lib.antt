pub mod Filling
pub mod Named
