-- Worked rows, by topics.
mod Cases
mod CommandsRefused
mod Given
mod Meanings
mod NamesLeft
mod Printing
mod Scripts
mod SortsRefused
mod States
mod TermsRefused
mod WrittenTerms
