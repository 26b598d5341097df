pub mod Accepted
pub mod Enums
pub mod Environments
