mod Choices
mod ClassFacts
pub mod Joining
mod Keeping
mod Lexing
mod Literals
mod Nesting
mod Numbers
mod Outcomes
pub mod Printing
mod Putting
pub mod Rereading
mod ReservedWords
mod Rows
pub mod Stepping
mod Words
