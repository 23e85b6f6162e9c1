pub mod CountLemmas
pub mod MemoryLemmas
pub mod Prefixes
pub mod Transfers
