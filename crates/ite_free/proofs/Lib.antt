mod AllInEach
mod Choices
mod IteBuilt
mod IteConstants
mod IteGone
mod IteLists
mod IteMembers
mod IteParts
mod IteValueComplete
mod IteValueSound
mod IteValues
mod Replaced
mod Rows
pub mod Choosing
pub mod DefinedNodes
pub mod DrawnConstants
pub mod IteGroups
pub mod IteMade
pub mod RemovedNodes
