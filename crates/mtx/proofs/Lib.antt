pub mod Playing
pub mod Verdicts
