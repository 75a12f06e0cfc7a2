-- Requests in hand, the sessions that they wait in, and the ground of each reply.
pub mod Living
pub mod Asking
pub mod Tags
pub mod Holding
pub mod Running
