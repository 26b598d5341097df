pub mod Signature
pub mod Symbols
pub mod Values
