pub mod Cuts
pub mod Found
pub mod Fronts
pub mod Messages
pub mod Read
pub mod Steps
pub mod Turns
pub mod Written
