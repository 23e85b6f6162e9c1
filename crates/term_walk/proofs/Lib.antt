pub mod Below
mod Costs
mod Counting
mod FreeScan
mod Marks
pub mod Members
pub mod Nodes
mod Once
mod PlaceLemmas
pub mod Roots
mod Turns
pub mod Visits
mod SymbolLists
