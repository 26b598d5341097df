pub mod Casing
