pub mod Spliced
pub mod Parts
pub mod Filled
