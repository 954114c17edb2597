pub mod Parts
pub mod Eighteen
pub mod Walked
pub mod One
