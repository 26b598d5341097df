pub mod Firsts
pub mod Shows
pub mod Writing
