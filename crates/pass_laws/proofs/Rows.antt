-- Worked rows.
mod Given
mod Lists
mod Scripts
mod Carried
mod Led
mod LiveGroups
mod LiveRemovals
