pub mod Answers
pub mod Results
