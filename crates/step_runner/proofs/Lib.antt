pub mod LineLemmas
pub mod InputLemmas
pub mod Validity
pub mod Known
pub mod StepLemmas
