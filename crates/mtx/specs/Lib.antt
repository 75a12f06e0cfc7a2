pub mod Words
pub mod Statuses
pub mod Ending
pub mod Play
