-- Worked rows, by topics.
mod Given
mod Trees
mod Graphs
mod Scripts
