pub mod Bytes
pub mod Courses
pub mod Fetching
pub mod Steps
