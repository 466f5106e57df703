pub mod Masks
pub mod Products
pub mod Parts
pub mod Arrays
pub mod WordPairs
