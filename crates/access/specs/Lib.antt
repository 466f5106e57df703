pub mod Spines
pub mod RowLists
pub mod Walks
pub mod Choices
pub mod Answers
pub mod Groups
