pub mod Clients
pub mod Behind
mod Placing
pub mod Alone
