pub mod Opened
pub mod Comes
pub mod Parts
