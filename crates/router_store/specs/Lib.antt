pub mod Boots
pub mod Routers
