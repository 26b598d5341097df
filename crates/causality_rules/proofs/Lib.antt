pub mod Cycles
pub mod Files
pub mod Lists
pub mod Nested
