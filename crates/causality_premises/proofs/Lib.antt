mod Clocks
mod Files
mod Found
pub mod Scope
mod Within
