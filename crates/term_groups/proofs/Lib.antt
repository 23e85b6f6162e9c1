mod ListedCollected
mod ListedOrders
mod ListedTerms
mod PartMembers
pub mod Draws
pub mod ListedParts
pub mod MadeNodes
pub mod NamedTerms
pub mod NodesDrawn
pub mod OrderedNodes
pub mod PartNodes
pub mod ReplacedNodes
