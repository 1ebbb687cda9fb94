pub mod Requests
pub mod Entries
pub mod Trip
pub mod LinePlaces
pub mod Places
pub mod Statements
