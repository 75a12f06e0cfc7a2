pub mod Parts
pub mod Runs
pub mod Calm
pub mod Sound
pub mod Holding
pub mod Throughout
