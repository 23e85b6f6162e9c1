-- Worked rows, by topics.
mod Given
mod ReadAndPrinted
mod Refused
mod Writable
