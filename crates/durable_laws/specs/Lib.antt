pub mod Backed
pub mod Fitting
