pub mod Bounds
pub mod Every
pub mod Met
