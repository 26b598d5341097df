pub mod CellLemmas
pub mod FieldLemmas
pub mod LineLemmas
pub mod NextLemmas
pub mod OneLine
pub mod Parts
pub mod RowLemmas
pub mod WordLemmas
