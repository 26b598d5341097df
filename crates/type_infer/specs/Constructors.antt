-- The tables of the enumerations of constructors.
use Rattle.std.specs.Prelude.{ℕ, ◌+◌, nat_eq, ◌≡◌, ◌==◌, List, [], ◌∷◌, Option, Some, None, if◌then◌else◌}
use Rattle.std.specs.declared.hash.FoldHasher.{FoldHasher}
use Rattle.std.specs.declared.hash.BuildHasherDefault.{BuildHasherDefault}
use Rattle.indexmap.specs.IndexMap.{get, IndexMap}
use Rattle.ls_ast.specs.declared.tree.DefOf.{DefOf}
use Rattle.ls_base.specs.declared.Name.{Name}
use Rattle.ls_sig.specs.declared.binder.Use.{Use}
use Rattle.type_rules.specs.Files.{has_name, enumeration_of}
pub use Rattle.type_rules.specs.Constructors.{or_later, enumeration_in, spelling_at, enumeration_at, enumeration_before, enumeration, case_type}

abbrev pub Table : Type 0
Table = IndexMap ℕ ℕ (BuildHasherDefault FoldHasher)

-- what is there stays, and else this constructor is of this enumeration
abbrev pub NameMore : ℕ → ℕ → Table → Table → Type 0
NameMore k name old new = (x : ℕ) → get nat_eq new x ≡ or_later (get nat_eq old x) (if name == x then Some k else None)

-- what is there stays, and else these constructors are of this enumeration
abbrev pub NamesMore : ℕ → List Name → Table → Table → Type 0
NamesMore k names old new = (x : ℕ) → get nat_eq new x ≡ or_later (get nat_eq old x) (if has_name x names then Some k else None)

-- the number of the next enumeration
abbrev pub next_enumeration : ℕ → DefOf Use → ℕ
next_enumeration k (DefOf.Cases line name cases) = k + 1
next_enumeration k (DefOf.Let line node name params marks notes body) = k

-- what is there stays, and else the constructors of the definition are of this enumeration
abbrev pub DefinitionMore : ℕ → DefOf Use → Table → Table → Type 0
DefinitionMore k d old new = (x : ℕ) → get nat_eq new x ≡ or_later (get nat_eq old x) (enumeration_of k (d ∷ []) x)
