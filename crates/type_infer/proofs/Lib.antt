pub mod Inferred
pub mod Made
pub mod Stages
pub mod Tables
