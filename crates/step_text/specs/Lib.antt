pub mod Words
pub mod Entries
pub mod Nearest
pub mod Legal
pub mod Next
pub mod Lines
pub mod Text
