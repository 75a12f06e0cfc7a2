pub mod Equations
pub mod Escapes
pub mod Pieces
pub mod Printable
