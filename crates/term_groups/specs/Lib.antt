pub mod DrawnNodes
pub mod Drawing
pub mod Every
pub mod Grouping
pub mod Parts
pub mod Replacing
pub mod Seen
