pub mod FilterBytes
pub mod Joined
pub mod Lengths
pub mod Namespaces
pub mod Turns
