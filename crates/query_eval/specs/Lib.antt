pub mod Wanted
pub mod Refusals
pub mod Held
pub mod Acts
pub mod Outside
