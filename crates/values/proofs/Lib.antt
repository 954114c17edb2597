pub mod Lines
pub mod Carried
pub mod One
