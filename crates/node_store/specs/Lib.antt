pub mod Nodes
pub mod Appends
pub mod Starts
