-- The table of constructors after one more enumeration.
use Rattle.std.specs.Prelude.{◌≡◌, ℕ, List, Option, Some, None, nat_eq, if◌then◌else◌, ◌==◌}
use Rattle.std.specs.declared.hash.FoldHasher.{FoldHasher}
use Rattle.std.specs.declared.hash.BuildHasherDefault.{BuildHasherDefault}
use Rattle.indexmap.specs.IndexMap.{get, IndexMap}
use Rattle.scope_rules.specs.Faults.{or_later, or_next, place_of}

abbrev pub Table : Type 0
Table = IndexMap ℕ (ℕ × ℕ) (BuildHasherDefault FoldHasher)

-- what is there stays, and else a constructor has its first place among these
abbrev pub CasesMore : ℕ → List ℕ → Table → Table → Type 0
CasesMore t names old new = (c : ℕ) → get nat_eq new c ≡ or_later (get nat_eq old c) (or_next t (place_of c names) None)

abbrev pub CaseMore : ℕ → ℕ → ℕ → Table → Table → Type 0
CaseMore t at' name old new = (c : ℕ) → get nat_eq new c ≡ or_later (get nat_eq old c) (if name == c then Some (t, at') else None)
