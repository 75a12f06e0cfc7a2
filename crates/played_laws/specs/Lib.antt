pub mod Throughout
