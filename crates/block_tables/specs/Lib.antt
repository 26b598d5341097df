pub mod Blocks
pub mod Signals
pub mod Tables
