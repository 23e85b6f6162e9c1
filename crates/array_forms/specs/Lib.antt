pub mod ReadNodes
pub mod Reads
pub mod ValueLaws
pub mod ValueTerm
pub mod Writes
