pub mod Maps
pub mod NotedForms
pub mod Sampled
pub mod Seen
