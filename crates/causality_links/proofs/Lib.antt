pub mod Causes
pub mod ClockReads
pub mod Files
pub mod Link
pub mod Lists
pub mod Rules
