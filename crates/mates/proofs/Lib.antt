pub mod Mates
pub mod Alike
pub mod Sixteen
pub mod Start
pub mod Used
pub mod One
