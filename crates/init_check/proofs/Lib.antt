pub mod Pushed
pub mod Calls
pub mod Forms
pub mod Items
pub mod Decide
pub mod Steps
pub mod Known
pub mod ZeroRow
