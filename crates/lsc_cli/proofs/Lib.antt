pub mod ClosingLemmas
pub mod JudgedLemmas
pub mod SignatureLines
