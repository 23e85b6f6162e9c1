pub mod Bindings
pub mod Choices
pub mod Evaluated
pub mod KeptValues
pub mod Operated
pub mod Orders
pub mod ScalarOperands
