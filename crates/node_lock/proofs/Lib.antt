pub mod Sums
pub mod Calls
pub mod Changes
pub mod Tickets
pub mod Recording
pub mod Seats
pub mod Making
