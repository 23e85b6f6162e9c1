mod FlagsFound
mod FoundBack
mod FunctionsForgotten
mod LiveBehind
mod LiveFound
mod LiveLevels
pub mod LiveRoots
mod ModelsGrown
mod NumberedGraphs
mod PlacedAssertions
mod RowKeys
mod RowsAlike
mod RowsOfGraphs
mod RowsOfNumbers
mod SignatureFound
