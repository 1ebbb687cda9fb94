pub mod Class
pub mod Rows
pub mod Laws
