pub mod Expanding
pub mod Occurrences
pub mod Replacing
pub mod Solving
pub mod Working
