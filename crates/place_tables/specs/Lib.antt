pub mod Groups
pub mod Lacks
pub mod Tables
