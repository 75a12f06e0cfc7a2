pub mod Sessions
pub mod Ruling
pub mod Sending
pub mod Standing
