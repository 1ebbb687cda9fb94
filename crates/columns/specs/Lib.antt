-- Declared: Column of scope/specs/File. Computed: Stops beside it. That they agree for each line of the request file: Statements, by the laws
-- between them. Places: what the code cites.
pub mod Unique
pub mod Laws
pub mod NumberPart
pub mod RowPart
pub mod Shapes
pub mod Refused
pub mod Small
pub mod Lines
pub mod Texts
pub mod Statements
pub mod Places
