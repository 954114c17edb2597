pub mod Laws
pub mod Known
pub mod ByKind
pub mod One
pub mod Demands
