pub mod LineParts
pub mod LineCuts
pub mod Counting
pub mod Digits
pub mod Cuts
pub mod Hexed
pub mod Asked
