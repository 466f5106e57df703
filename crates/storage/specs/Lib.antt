pub mod Layout
pub mod Chains
pub mod Positions
pub mod Grouped
