pub mod Answering
mod AskedRules
mod BitRules
mod CellsKept
pub mod DrawnFrom
mod EightRewrite
mod Fillings
mod Holes
mod HolesInOrder
mod LogicRules
mod MadeTerms
pub mod OperandsSeen
mod PlacedNodes
mod Powers
mod PowersOfTwo
mod PowersRead
pub mod Replacing
mod RewritesKeep
mod RewritingKeeps
pub mod RewritingLaw
mod Rows
mod RuleAnswers
mod RuledTerms
mod RuleSteps
mod ShownOperators
mod SortedPlaces
mod TemplateLaws
mod ViewCells
mod ViewLaws
pub mod ViewRanks
mod ViewValues
