pub mod State
pub mod Deeds
pub mod Shards
