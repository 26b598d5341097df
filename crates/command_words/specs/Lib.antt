pub mod Asked
pub mod Forms
pub mod Options
pub mod Parsed
