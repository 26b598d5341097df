pub mod Standing
pub mod Rights
pub mod Sweeps
pub mod CallDepth
pub mod Run
pub mod Defined
pub mod Guards
