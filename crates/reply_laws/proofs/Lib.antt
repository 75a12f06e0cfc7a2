pub mod Lists
pub mod Hands
pub mod Ending
pub mod Taking
pub mod Asking
pub mod Reading
pub mod Moving
pub mod Running
