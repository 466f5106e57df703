pub mod Covering
pub mod Hanging
pub mod PlanBytes
pub mod Written
pub mod Searches
