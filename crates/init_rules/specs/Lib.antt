pub mod Bits
pub mod Files
pub mod Flow
pub mod Init
pub mod Nodes
pub mod Searches
pub mod Signatures
pub mod Slots
