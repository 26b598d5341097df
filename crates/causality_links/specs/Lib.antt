pub mod Close
pub mod Laws
