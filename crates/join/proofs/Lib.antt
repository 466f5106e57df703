pub mod Answering
pub mod Calls
pub mod Corollaries
