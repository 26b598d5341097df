pub mod NumberLemmas
pub mod ParseLemmas
