pub mod Highest
pub mod Unique
