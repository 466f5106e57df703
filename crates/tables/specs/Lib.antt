pub mod Cells
pub mod Copies
pub mod Catalogs
pub mod PlanTables
