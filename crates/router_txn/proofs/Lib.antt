pub mod Ordered
pub mod Least
