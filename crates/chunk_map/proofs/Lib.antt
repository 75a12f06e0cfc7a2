pub mod Testing
pub mod Rising
pub mod Behind
