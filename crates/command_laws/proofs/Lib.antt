pub mod Firsts
pub mod Alike
pub mod Behind
pub mod Unlooked
pub mod Sections
pub mod Lacks
