pub mod Places
pub mod OneShard
