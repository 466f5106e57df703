pub mod Spelling
pub mod Names
pub mod Judging
pub mod Admissions
pub mod Prepared
pub mod Forming
