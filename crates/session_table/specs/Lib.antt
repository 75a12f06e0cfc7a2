pub mod Sessions
pub mod Hashed
pub mod Refusals
