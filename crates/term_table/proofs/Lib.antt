pub mod Trees
pub mod Operators
pub mod Derived
pub mod Fits
pub mod Larger
pub mod Made
mod Minus
mod Rows
pub mod Fields
pub mod Growth
mod Inserted
pub mod Symbols
pub mod Ranks
pub mod Binding
mod Texts
