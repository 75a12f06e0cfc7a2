mod Cutting
pub mod Places
