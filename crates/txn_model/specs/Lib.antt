pub mod Commits
pub mod Decisions
pub mod Gathering
