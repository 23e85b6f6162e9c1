pub mod Ite
pub mod Laws
pub mod Removing
