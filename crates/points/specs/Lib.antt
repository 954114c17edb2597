pub mod Last
pub mod Again
