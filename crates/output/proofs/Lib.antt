pub mod Filling
pub mod Values
pub mod Ranks
pub mod PlacedAttributes
pub mod OutputTables
pub mod Tuples
pub mod CopyTables
