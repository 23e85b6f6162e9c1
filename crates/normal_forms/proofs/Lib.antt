pub mod Aig
pub mod AigShape
pub mod AtTruth
mod BelowRoot
pub mod Bound
pub mod Clear
pub mod Drawn
mod Duals
mod Inherited
pub mod Inside
mod Inverted
mod Joined
mod Kept
pub mod KeptResults
mod Keeps
pub mod LiteralNodes
pub mod MadeNodes
pub mod Nnf
pub mod NnfShape
pub mod NoBool
mod NodeShapes
pub mod Replaced
mod Rows
pub mod SelfSubShape
pub mod SelfSubstituted
pub mod Shannon
pub mod ShannonInside
pub mod ShannonRegular
pub mod Substituted
mod Taken
pub mod Turns
