pub mod Forms
pub mod Loops
pub mod Told
pub mod Turns
