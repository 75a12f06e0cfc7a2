pub mod Files
pub mod Play
pub mod Statuses
