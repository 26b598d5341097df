pub mod NextInstant
pub mod RunningLemmas
pub mod RunningSumLemmas
