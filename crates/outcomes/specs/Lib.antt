pub mod Told
pub mod Causes
pub mod Outcome
pub mod Bind
