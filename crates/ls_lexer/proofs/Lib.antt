pub mod Told
pub mod Munch
pub mod NameLemmas
pub mod Named
pub mod Quotes
pub mod Rows
pub mod Tables
pub mod Unique
