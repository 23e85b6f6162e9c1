mod AckedCommands
mod AppliedFunctions
mod Assertions
pub mod CarriedLists
mod DrawnRemovals
pub mod DrawnSorts
mod DrawnSymbols
mod DroppedGraphs
mod FittingPoints
mod FoundFunctions
mod FoundGroups
mod GivenValues
mod GroupCommands
mod GroupLevels
mod GroupModels
pub mod GroupPasses
mod GroupPointsHold
mod GroupRuns
mod GroupWalks
mod GroupsAtPoints
mod GroupsReady
mod GroupsReadyNames
pub mod InForm
pub mod Kept
mod KeptValues
mod LevelsBelow
pub mod Literals
mod LiveBehindGroups
mod LiveOperands
mod MadeRemovals
mod MappedLevels
mod MetAtChecks
mod MetGroups
pub mod ModelsCarried
pub mod ModelsStay
pub mod NamedTerms
mod OpenLevels
mod Outlines
mod PassTurns
mod PlainLiterals
mod PlainPoints
mod PlainStates
mod PoppedLevels
mod PrintedRemovals
mod ReadsInside
mod ReadyGroups
mod ReadyLevels
mod ReadyNames
mod ReadySorts
mod ReadyStates
mod ReadySymbols
mod ReadyTerms
mod RemovalChains
mod RemovalDrawn
mod RemovalLaws
mod RemovalLinks
mod RemovalNames
mod RemovalPasses
mod RemovalPoints
mod RemovalStates
mod RemovalsReady
mod RemovalsTell
mod RewritesInside
mod Rows
mod RulesKeep
mod SignaturesLed
mod SimplifiesInside
mod Standing
mod StepsTell
mod TabledGraphs
mod ToldCommands
mod ToldOperands
mod ToldTables
pub mod Truths
mod ValuedGraphs
mod Walked
mod WithinForms
mod WithinPrenex
mod WithinQuantifiers
