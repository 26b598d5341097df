pub mod Instants
pub mod Solved
pub mod Ordering
pub mod Solutions
pub mod Unique
