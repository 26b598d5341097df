pub mod Equal
pub mod Forms
pub mod Same
pub mod Schemes
pub mod Shrink
