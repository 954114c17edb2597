pub mod Compare
pub mod Keys
pub mod Keyed
pub mod Held
