mod BitVectors
mod Equal
mod Free
mod Rank
mod Shapes
mod Subst
mod Val
mod Values
