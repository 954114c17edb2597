pub mod Places
pub mod Held
pub mod Named
pub mod One
