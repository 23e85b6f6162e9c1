pub mod Codes
pub mod Faults
pub mod Formulas
pub mod Hashing
pub mod SameNodes
pub mod ShapeRank
pub mod View
pub mod WrittenForms
