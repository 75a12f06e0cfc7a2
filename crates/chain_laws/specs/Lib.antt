pub mod Completing
pub mod Chained
