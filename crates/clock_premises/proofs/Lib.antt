pub mod Conditions
pub mod Files
mod Given
mod GivenBodies
pub mod Lists
pub mod Scope
mod Sites
mod Walk
