pub mod IsFresh
pub mod Shapes
