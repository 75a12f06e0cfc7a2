mod Times
pub mod Keeping
pub mod Stepping
mod Recording
mod Appending
mod Numbered
pub mod Restarting
pub mod Meeting
pub mod Arriving
pub mod Bounded
pub mod Carrying
mod Beginning
mod Asking
mod Restoring
mod Coming
mod Handing
