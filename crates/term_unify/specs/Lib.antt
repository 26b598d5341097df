pub mod Binding
pub mod Graph
pub mod Order
pub mod Terms
