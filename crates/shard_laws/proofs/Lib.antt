pub mod Views
pub mod Sets
