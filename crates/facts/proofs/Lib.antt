pub mod Exact
pub mod Grown
pub mod Made
pub mod Noted
