pub mod Codes
pub mod Escapes
pub mod Ints
pub mod Numbers
pub mod Tokens
pub mod TextBytes
