pub mod Unfolded
pub mod Pairs
pub mod Unlike
pub mod Ends
pub mod Total
pub mod Numbers
pub mod Parts
pub mod Longs
