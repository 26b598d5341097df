pub mod Leaves
pub mod Starts
pub mod Form
pub mod Arguments
pub mod Results
pub mod Runnable
pub mod Node
pub mod Laws
