pub mod Fits
pub mod Turns
pub mod Parts
