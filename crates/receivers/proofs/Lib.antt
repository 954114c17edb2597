pub mod Values
pub mod Below
pub mod Rising
pub mod Halves
pub mod Rows
pub mod There
pub mod Numbers
pub mod One
