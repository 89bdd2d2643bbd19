pub mod Partition
pub mod Nodes
pub mod Found
pub mod Reached
