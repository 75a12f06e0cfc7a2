pub mod Spells
pub mod Faults
pub mod Messages
pub mod First
