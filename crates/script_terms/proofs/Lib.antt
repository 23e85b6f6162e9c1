mod AppliedNodes
mod ArgumentsRanked
mod BinderReading
pub mod BoundVariables
pub mod Builds
pub mod BuiltNames
pub mod DrawnConstants
mod EndedRuns
pub mod Gaining
pub mod Grown
mod HeadIndices
mod HeadsCalled
mod Keywords
mod Laying
pub mod Lexemes
mod Linking
mod LocalsMentioned
pub mod MadeConstants
mod MadeQuantifiers
pub mod NameFacts
mod NamesOfLets
mod NamesOfTerms
pub mod Outcomes
pub mod Placing
pub mod QuantifiedNames
pub mod Refusing
mod ReservedWords
mod Running
mod SameSorts
pub mod ScopeNames
pub mod Showing
pub mod ShowingLocals
pub mod SortFacts
mod SortReading
pub mod Stepped
pub mod Stepping
pub mod StepsOfAnnotations
pub mod StepsOfCalls
pub mod StepsOfLets
pub mod StepsOfQuantifiers
mod SymbolsRead
mod TheoryConstants
mod TheoryNames
