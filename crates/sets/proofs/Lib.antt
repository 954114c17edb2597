pub mod Answers
pub mod Across
pub mod Tally
pub mod Verdicts
pub mod One
pub mod Demands
