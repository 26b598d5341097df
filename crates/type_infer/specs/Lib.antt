pub mod Constructors
pub mod Inference
pub mod Files
