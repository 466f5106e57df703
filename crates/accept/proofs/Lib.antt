pub mod Engines
pub mod Comparisons
