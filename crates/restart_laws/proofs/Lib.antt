pub mod Lines
pub mod Hearing
pub mod Playing
pub mod Alone
pub mod Confs
pub mod Chunks
pub mod Runs
pub mod Fitting
