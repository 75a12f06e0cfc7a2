pub mod Said
pub mod Grounds
pub mod Boots
pub mod Knowing
