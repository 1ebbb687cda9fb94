-- The request file: its lines, where a line stops and its column, what a request says, the refusals of a line, the text of a request and the
-- reading of a text.
pub mod Bytes
pub mod Number
pub mod Stops
pub mod Line
pub mod Kinds
pub mod Request
pub mod Refusals
pub mod Text
pub mod Column
pub mod Reader
