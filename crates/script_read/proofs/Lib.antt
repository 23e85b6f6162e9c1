mod Agreeing
mod Agreement
mod Applying
mod AssertionSteps
mod Bindings
mod BuiltValues
mod Calling
mod ClearBuilt
mod ClearReads
mod ClearScript
mod CommandWords
pub mod CommandsStay
mod DefinedName
mod Defining
mod DefinitionSteps
mod DrawnBytes
mod Expanding
mod Fitting
pub mod FormTexts
mod LastExit
mod LevelSteps
mod LiteralNodes
mod Literals
pub mod LiveSorts
mod Matching
mod Meanings
mod Naming
mod NewNames
mod OutlineFacts
mod Paired
mod Points
mod PrintableScript
mod Quantifying
mod ReaderSteps
mod RegularReads
mod RegularStanding
mod RegularTerms
mod Rows
mod SessionSteps
mod Shaping
mod Shown
pub mod ShownLevels
mod Sources
mod SparedScript
mod Standing
mod TermsMean
mod TextNames
mod TokenTexts
mod Turns
mod UsableBindings
mod UsableReads
pub mod UsableTerms
mod WritableText
