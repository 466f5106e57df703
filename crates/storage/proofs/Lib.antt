pub mod Chains
pub mod Rows
pub mod Totals
pub mod Fronts
pub mod Sizes
pub mod Sample
