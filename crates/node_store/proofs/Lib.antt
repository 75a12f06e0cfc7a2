pub mod Cutting
pub mod Known
pub mod Next
pub mod Rising
pub mod Taking
