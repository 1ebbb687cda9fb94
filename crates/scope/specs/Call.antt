-- What comes back: answers, lent tables and their checks, and what a call of reader, writer, judge and gate comes to.
pub mod Answer
pub mod Result
pub mod Tables
pub mod Checked
pub mod Calls
pub mod Judge
