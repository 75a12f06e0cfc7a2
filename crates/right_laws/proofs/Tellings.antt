-- What replies tell of the ends of transactions, and what is in the list of commits.
pub mod Phases
pub mod Kept
pub mod Saying
pub mod Moving
pub mod Releasing
pub mod Reached
pub mod Grounds
pub mod Whole
pub mod Writing
pub mod Agreeing
