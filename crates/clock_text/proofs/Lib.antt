pub mod Shows
pub mod Turns
