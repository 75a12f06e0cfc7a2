pub mod Below
pub mod Writing
pub mod Good
pub mod Held
