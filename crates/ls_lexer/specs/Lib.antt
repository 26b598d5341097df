pub mod Characters
pub mod Keywords
pub mod Letters
pub mod Pieces
pub mod Lexing
