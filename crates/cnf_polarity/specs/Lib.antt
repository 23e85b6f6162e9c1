pub mod Cnf
pub mod Laws
pub mod Literals
pub mod Marks
pub mod Naming
pub mod Putting
pub mod Shapes
