pub mod Counting
pub mod Running
pub mod Step
pub mod Accepted
pub mod Killed
pub mod Line
pub mod One
