-- Worked rows.
mod Words
mod Lines
mod Outputs
mod Rewritten
mod Carrying
mod Blasting
mod Linking
mod Headline
mod Endings
