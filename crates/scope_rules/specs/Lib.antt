pub mod Places
pub mod Claims
pub mod Faults
pub mod File
pub mod Notes
pub mod Resolved
pub mod After
pub mod Laws
