-- What a reader must believe: Limits, Logic, File, Call. The rest is proved or computed over these.
pub mod Limits
pub mod Logic
pub mod File
pub mod Call
pub mod Tools
pub mod Worked
