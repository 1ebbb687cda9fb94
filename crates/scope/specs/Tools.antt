-- Laws of tests and of tables, for the proofs of every crate.
pub mod Tests
pub mod Unpack
