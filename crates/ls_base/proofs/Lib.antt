pub mod Built
pub mod Spellings
pub mod Written
