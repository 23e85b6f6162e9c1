mod Aig
mod Nnf
mod Prenex
mod Quantifiers
