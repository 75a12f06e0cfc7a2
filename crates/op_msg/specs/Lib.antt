pub mod Words
pub mod Message
pub mod Written
pub mod Errors
pub mod Reading
pub mod Asking
pub mod Stream
pub mod Limits
