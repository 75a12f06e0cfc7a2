pub mod Schedule
pub mod Plays
pub mod Ended
pub mod Starting
pub mod Steps
pub mod Refusing
