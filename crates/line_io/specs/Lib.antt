pub mod Cells
pub mod Fields
pub mod Line
pub mod Places
pub mod Rows
pub mod Words
