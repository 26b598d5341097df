pub mod Equations
pub mod Found
pub mod Layers
pub mod Ranged
pub mod Turns
