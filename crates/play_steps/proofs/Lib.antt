mod Ready
mod Serving
mod Lining
mod Queueing
pub mod Keeping
pub mod Unended
pub mod Calm
