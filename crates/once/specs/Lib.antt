pub mod Covered
pub mod Marks
