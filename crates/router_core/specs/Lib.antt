pub mod Requests
pub mod News
pub mod Safe
pub mod Step
pub mod Turning
pub mod Laws
