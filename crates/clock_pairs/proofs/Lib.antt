pub mod Calling
pub mod Collecting
pub mod Layered
pub mod Named
pub mod Pairing
pub mod Sighted
