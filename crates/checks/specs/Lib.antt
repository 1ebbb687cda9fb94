pub mod Met
pub mod MetLaws
pub mod Answers
pub mod Sections
pub mod Whole
pub mod FormTurns
pub mod Near
