pub mod Sorted
pub mod Listed
pub mod Repeat
