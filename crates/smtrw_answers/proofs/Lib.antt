mod AnsweredTexts
mod BlastedPromise
mod CarriedModels
mod CarriedTexts
pub mod CarriedWords
pub mod CheckedWords
pub mod ClapCalls
pub mod ClapCommands
pub mod ClapMatches
pub mod ClapRows
pub mod ClapWalk
pub mod ClapWords
mod DemoForms
mod DemoLengths
mod DemoLines
mod DemoNames
mod DemoScripts
mod DemoTerms
pub mod DemoWords
pub mod ErrorLines
mod EvaluatedTerms
pub mod GrammarLists
pub mod GrammarNames
pub mod GrammarNumbers
pub mod GrammarOperands
pub mod GrammarWords
mod LinkedPromise
mod OneText
pub mod PlannedWords
mod Promise
mod ReadModels
mod ReadPoints
mod ReadableAnswers
mod ReadableLifts
mod ReadableTables
mod ReadableTexts
mod ReadableValues
mod Rows
mod SameChecks
mod UnblastedTexts
