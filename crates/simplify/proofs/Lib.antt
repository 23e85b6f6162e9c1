pub mod Answered
pub mod ArraySteps
pub mod ArraysGive
pub mod ConstantNodes
pub mod ConstantTests
pub mod DistinctGives
pub mod FoldGives
pub mod FoldedConstants
pub mod Gathered
pub mod GatheredNodes
pub mod Gives
mod JoinedNodes
pub mod JunctionGives
pub mod LawsGive
pub mod Lists
pub mod LogicGives
mod LogicNodes
pub mod NoLaw
pub mod NodesOfSorts
pub mod NumbersGive
pub mod Occurrences
mod OnceNodes
pub mod Quantified
pub mod QuantifiersKeep
pub mod Reductions
mod Rows
pub mod SimplifiedNodes
pub mod SimplifyKeeps
pub mod StoresGive
pub mod SumsGive
pub mod UnaryGive
pub mod VectorsGive
