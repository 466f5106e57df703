pub mod Places
pub mod Parts
pub mod Hanging
pub mod Lacking
pub mod Rooting
pub mod Writing
pub mod Whole
