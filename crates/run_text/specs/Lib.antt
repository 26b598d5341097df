pub mod Machine
pub mod OneLine
pub mod Progress
pub mod RunText
