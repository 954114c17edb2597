pub mod Paper
pub mod Said
