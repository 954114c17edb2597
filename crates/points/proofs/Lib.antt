pub mod Last
pub mod Above
pub mod Stamps
pub mod Again
pub mod Used
pub mod One
