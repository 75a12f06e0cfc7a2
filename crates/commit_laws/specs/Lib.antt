pub mod Speaking
