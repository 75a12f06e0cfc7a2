pub mod Fields
pub mod Missing
