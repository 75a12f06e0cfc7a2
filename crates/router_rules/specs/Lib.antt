pub mod Times
pub mod Ends
pub mod Commits
pub mod Statements
pub mod Tokens
pub mod Resends
pub mod Serving
pub mod Safe
