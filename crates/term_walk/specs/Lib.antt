pub mod Binders
pub mod FreeLists
pub mod Marks
pub mod Packed
pub mod Places
pub mod Stacks
pub mod Subterms
pub mod Walking
