-- Worked rows, by topics.
mod Answers
mod Clauses
