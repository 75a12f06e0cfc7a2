pub mod Searched
pub mod Viewed
pub mod Ordered
pub mod Added
pub mod Gathered
