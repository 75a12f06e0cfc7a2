pub mod Found
pub mod Logged
