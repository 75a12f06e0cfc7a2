pub mod Risen
pub mod Ranges
pub mod Asked
pub mod Sent
