pub mod Coded
pub mod Texts
pub mod Columns
pub mod Said
pub mod Given
pub mod Made
