pub mod Asked
pub mod RowLine
pub mod Puts
pub mod Taken
