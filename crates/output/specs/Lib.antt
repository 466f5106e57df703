pub mod OutputLists
pub mod OutputColumns
pub mod CopyColumns
pub mod Placing
pub mod Storing
pub mod Values
