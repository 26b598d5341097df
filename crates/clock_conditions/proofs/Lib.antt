pub mod Meeting
pub mod Ranking
pub mod Sizing
pub mod Testing
