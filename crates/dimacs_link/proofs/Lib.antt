mod Parts
mod Digits
mod Naming
mod Passages
mod Rows
mod Numbering
mod NodeParts
mod PartLists
mod ClauseLists
mod ClauseValues
mod AnsweredModels
pub mod Answered
mod DistinctSymbols
mod LinkedChecks
mod UnlinkedRoots
