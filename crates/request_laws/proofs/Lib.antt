pub mod Docs
pub mod Meanings
pub mod Namespaces
pub mod Requests
