pub mod Behind
pub mod Lacking
pub mod Checked
pub mod Placing
