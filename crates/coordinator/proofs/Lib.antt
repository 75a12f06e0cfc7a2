pub mod Counting
pub mod Deciding
pub mod Found
pub mod Trees
pub mod Waiting
