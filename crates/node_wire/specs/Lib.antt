pub mod Errors
pub mod Output
pub mod Spelling
pub mod Reading
