pub mod Cleared
pub mod Taken
pub mod Asked
pub mod Rows
pub mod Reached
pub mod Whole
pub mod One
