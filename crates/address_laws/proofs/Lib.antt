pub mod Lists
pub mod Maps
pub mod Sending
pub mod Ruling
pub mod Standing
