pub mod Lines
pub mod Input
pub mod Counting
pub mod Words
pub mod Limits
