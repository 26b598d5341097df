mod Puts
pub mod Writing
