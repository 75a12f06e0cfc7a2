pub mod Coming
pub mod Telling
pub mod Left
pub mod Crash
