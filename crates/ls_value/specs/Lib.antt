pub mod Character
pub mod Reading
pub mod Spelling
pub mod TextBytes
