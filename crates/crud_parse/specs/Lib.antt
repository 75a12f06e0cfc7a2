pub mod Results
pub mod Names
pub mod Operators
pub mod Filters
pub mod Updates
