pub mod Adding
pub mod One
