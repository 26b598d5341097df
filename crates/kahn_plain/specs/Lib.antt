pub mod Equations
pub mod Turns
pub mod Calls
pub mod Alarms
pub mod Node
