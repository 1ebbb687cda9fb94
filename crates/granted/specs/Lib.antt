pub mod Reasons
pub mod Judged
pub mod Fitting
pub mod LimitsOnly
pub mod Unit
