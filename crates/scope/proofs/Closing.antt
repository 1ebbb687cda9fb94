-- The computed facts are the least closed set (`Agree`), and the laws of closing (`Laws`).
pub mod Paths
pub mod Computed
pub mod ByRules
pub mod Agree
pub mod Laws
