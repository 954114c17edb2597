pub mod Paper
pub mod Ink
pub mod Packed
pub mod Figures
pub mod Texts
pub mod Ranks
pub mod Families
