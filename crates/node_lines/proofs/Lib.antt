pub mod Lists
pub mod Clocked
pub mod Writing
