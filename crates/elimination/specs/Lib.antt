pub mod Parents
pub mod Remain
pub mod Steps
pub mod Writing
pub mod Searches
