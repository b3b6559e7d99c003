pub mod Found
pub mod Nodes
