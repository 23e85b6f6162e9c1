pub mod Forms
pub mod Making
pub mod Operands
pub mod Slots
