pub mod Player
pub mod Lines
pub mod Taking
pub mod Steps
