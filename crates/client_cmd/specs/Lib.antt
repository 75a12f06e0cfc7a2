pub mod Errors
pub mod Tokens
pub mod Commands
pub mod Lists
