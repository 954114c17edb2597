pub mod Splices
pub mod Marks
pub mod Parted
pub mod Stretches
pub mod Traced
pub mod Lined
pub mod Wholes
pub mod One
