pub mod Files
pub mod Items
pub mod Laws
pub mod Reads
