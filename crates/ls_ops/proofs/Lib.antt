pub mod SymbolLemmas
pub mod TableLemmas
pub mod ValueLemmas
