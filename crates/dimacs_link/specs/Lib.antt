pub mod AnswerModels
pub mod AnswerTexts
pub mod CheckFaults
pub mod Checks
pub mod Clauses
pub mod Constants
pub mod Laws
pub mod Readings
