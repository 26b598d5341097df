pub mod FaultLemmas
pub mod MarkLemmas
pub mod RegionLemmas
