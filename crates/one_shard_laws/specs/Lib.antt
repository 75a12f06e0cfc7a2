pub mod Sessions
pub mod Alone
pub mod Lasting
pub mod Concluding
pub mod Asking
