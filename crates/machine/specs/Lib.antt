pub mod Change
pub mod Tables
pub mod Room
pub mod Machine
pub mod Turn
