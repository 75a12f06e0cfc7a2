pub mod Image
pub mod Refusals
pub mod Sound
pub mod Laws
