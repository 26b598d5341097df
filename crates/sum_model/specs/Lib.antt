pub mod Inside
pub mod Running
pub mod RunningSum
