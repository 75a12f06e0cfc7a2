-- What routers know of writes, and one decision of each transaction.
pub mod Knowing
pub mod Given
pub mod Taking
pub mod Running
pub mod Boots
pub mod Writeless
pub mod Deciding
