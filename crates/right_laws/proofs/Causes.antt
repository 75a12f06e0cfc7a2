-- What stands where a cause that a reply tells was made.
pub mod Unvoted
pub mod Recovering
pub mod All
