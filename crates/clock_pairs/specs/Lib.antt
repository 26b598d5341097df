pub mod Entries
pub mod Scene
pub mod Sight
pub mod Terms
pub mod Walks
