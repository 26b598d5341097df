pub mod Signatures
pub mod Texts
