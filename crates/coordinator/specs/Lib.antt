pub mod Askers
pub mod Decisions
pub mod Room
pub mod TwoPhase
