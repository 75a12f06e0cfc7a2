pub mod Hands
pub mod Tellings
pub mod Tokens
pub mod Causes
pub mod Writes
pub mod Whole
