mod OverResults
mod OverWrites
pub mod ReadsKeep
mod Rows
pub mod ValueNodes
pub mod ValueTerms
