pub mod Times
pub mod Ranks
pub mod Merge
pub mod Places
pub mod Rising
pub mod Taken
pub mod Firsts
pub mod One
