pub mod Calls
pub mod Counts
pub mod Host
pub mod Memory
pub mod MemorySink
pub mod NameCounts
pub mod Told
