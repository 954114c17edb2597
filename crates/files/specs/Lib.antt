pub mod Reads
pub mod Report
