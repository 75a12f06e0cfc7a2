pub mod Messages
pub mod Refusals
pub mod Plain
pub mod Plans
pub mod Names
pub mod Spelling
