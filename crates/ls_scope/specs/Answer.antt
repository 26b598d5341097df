-- The answers of the calls.
use Rattle.std.specs.Prelude.{◌≡◌, ℕ, Bool, true, List, ◌∷◌, [], ◌++◌, Option, Some}
use Rattle.ls_base.specs.declared.Line.{Line}
use Rattle.ls_base.specs.declared.Name.{Name}
use Rattle.ls_ast.specs.declared.tree.DefOf.{DefOf}
use Rattle.ls_ast.specs.declared.tree.Pat.{Pat}
use Rattle.ls_sig.specs.declared.binder.Use.{Use}
use Rattle.ls_scope.specs.declared.fault.ScopeFault.{ScopeFault}
use Rattle.ls_scope.specs.declared.fault.ScopeFault.TheVariants as f
use Rattle.scope_rules.specs.Claims.{Known}
use Rattle.scope_rules.specs.Faults.{Fault, Twice, Unbound, NotAllArms, Mixed, NotCombinatorial}
use Rattle.scope_rules.specs.File.{known_after, name_numbers}
use Rattle.scope_rules.specs.Resolved.{resolved_def}
pub use Rattle.scope_rules.specs.Resolved.{resolved_defs, no_uses}

-- what an answer says of the first fault
abbrev pub Blames : ScopeFault → Option (Fault × ℕ) → Type 0
Blames (f.Twice line) j = j ≡ Some (Twice, line.0)
Blames (f.Unbound line) j = j ≡ Some (Unbound, line.0)
Blames (f.NotAllArms line) j = j ≡ Some (NotAllArms, line.0)
Blames (f.Mixed line) j = j ≡ Some (Mixed, line.0)
Blames (f.NotCombinatorial line) j = j ≡ Some (NotCombinatorial, line.0)
Blames f.NoMemory j = Unit {0}

-- a definition with its binders and marks, and what stands after it
abbrev pub made : {N : Type 0} → List (List ℕ) → Known → DefOf N → DefOf Use × Known
made names k d = (resolved_def names k d, known_after names k d)

abbrev pub type_made : Known → Line → Name → List Name → DefOf Use × Known
type_made k line t cs = (DefOf.Cases line t cs, record { enums = k.enums ++ (t.0, name_numbers cs) ∷ []; defs = k.defs })

abbrev pub IsTwice : ScopeFault → Line → Bool → Type 0
IsTwice (f.Twice l) line b = (b ≡ true) × (l ≡ line)
IsTwice f.NoMemory line b = Unit {0}
IsTwice _ line b = ⊥
