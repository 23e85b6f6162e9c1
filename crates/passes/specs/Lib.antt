pub mod Assertion
pub mod Plans
pub mod Carrying
pub mod LiveSymbols
pub mod Removing
pub mod LiveRows
