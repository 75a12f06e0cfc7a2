pub mod Versions
pub mod Ids
pub mod Nested
pub mod Chains
pub mod Collections
pub mod TakenBack
pub mod Refusals
