pub mod Shown
pub mod One
