pub mod Scheme
pub mod Assembly
pub mod Blocks
pub mod Plans
pub mod Setting
pub mod Numbering
pub mod Coded
pub mod Laws
