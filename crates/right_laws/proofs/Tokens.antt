-- Tokens that are handed back as they were told: what they name.
pub mod Deeds
pub mod Requests
pub mod Routers
pub mod Replies
pub mod Boots
pub mod Named
pub mod Given
pub mod Standing
pub mod Running
pub mod Agreeing
pub mod Earlier
pub mod Coming
