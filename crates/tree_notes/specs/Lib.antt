pub mod Agreement
pub mod Each
pub mod Laws
pub mod Noted
pub mod Numbered
pub mod Order
