pub mod Counting
pub mod Fronts
pub mod Gathered
pub mod Leaving
pub mod Sizes
