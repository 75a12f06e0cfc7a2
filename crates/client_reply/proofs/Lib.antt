pub mod Messages
pub mod Tags
