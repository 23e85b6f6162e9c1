mod FoundRows
mod FromInputs
mod GatheredTerms
mod GivenValues
mod MadeRemovals
mod MoreConstants
mod PairValues
mod PlainTerms
mod RemovalChains
mod ReplacedUses
mod Rows
mod TableRows
mod TableValues
mod TabledModels
mod TablesValid
mod UseBuilt
mod UseLists
mod UseOrder
mod UsePairs
mod UseParts
mod UseSorts
mod WorkedTables
pub mod AckRemovals
pub mod ClosedLevels
pub mod CutLevels
pub mod EnteredUses
pub mod FoundUses
pub mod GrownUses
pub mod KeptConstants
pub mod KeptUses
pub mod LiveApplications
pub mod MarkedNodes
pub mod NewUses
pub mod PairedUses
pub mod PlacedUses
pub mod ReachedUses
pub mod RemovedUses
pub mod SettledUses
pub mod UsedFunctions
