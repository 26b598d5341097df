pub mod Filed
pub mod Nodes
pub mod Prepared
pub mod Schemes
pub mod Signatures
