pub mod Unharmed
pub mod Course
pub mod Ends
pub mod Clients
