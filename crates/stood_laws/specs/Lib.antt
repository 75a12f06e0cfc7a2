pub mod Because
pub mod Ruled
