pub mod Parts
pub mod Paths
pub mod Groups
pub mod Homes
pub mod Signals
pub mod Prepared
pub mod Constructors
