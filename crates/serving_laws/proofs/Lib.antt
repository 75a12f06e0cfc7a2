pub mod Lists
pub mod Numbers
pub mod Turning
pub mod Ruling
pub mod Stepping
pub mod Starting
pub mod Crashing
pub mod Ending
