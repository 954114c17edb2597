pub mod Paper
pub mod Steps
pub mod Calls
pub mod Said
