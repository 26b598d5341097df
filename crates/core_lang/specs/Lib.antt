pub mod Leaves
pub mod Equations
pub mod Reads
pub mod Cores
pub mod Orders
pub mod Laws
