pub mod Coded
pub mod Fitting
