pub mod Bits
pub mod Laws
pub mod Lifting
pub mod Nodes
pub mod Places
pub mod Scripts
pub mod Spelled
