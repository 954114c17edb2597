pub mod Answers
pub mod Kept
pub mod Known
pub mod SamePath
pub mod Says
pub mod Forms
pub mod Faults
pub mod One
