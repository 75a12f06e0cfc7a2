pub mod News
pub mod Made
