pub mod Placed
pub mod Steps
pub mod Naming
pub mod Used
pub mod One
