-- The scope of a file.
use Rattle.std.specs.Prelude.{ℕ, ◌||◌, Bool, List, [], ◌∷◌, ◌++◌, map, Option, Some, None, is_some, if◌then◌else◌, codes}
use Rattle.std.specs.List.{list_any}
use Rattle.ls_base.specs.declared.Name.{Name}
use Rattle.ls_ast.specs.declared.tree.DefOf.{DefOf}
use Rattle.scope_rules.specs.Claims.{Known}
use Rattle.scope_rules.specs.Faults.{Fault, Twice, among, repeated, spelled, case_place, Judged, fault, seen_later}

abbrev pub text_int : List ℕ
text_int = codes "int"

abbrev pub text_bool : List ℕ
text_bool = codes "bool"

abbrev pub text_char : List ℕ
text_char = codes "char"

abbrev pub text_string : List ℕ
text_string = codes "string"

abbrev pub text_unit : List ℕ
text_unit = codes "unit"

abbrev pub nothing_known : Known
nothing_known = record { enums = []; defs = [] }

abbrev pub base_type : List (List ℕ) → ℕ → Bool
base_type names x = list_any (λ t. spelled names t x) (text_int ∷ text_bool ∷ text_char ∷ text_string ∷ text_unit ∷ [])

abbrev pub type_names : List (ℕ × List ℕ) → List ℕ
type_names = map {A = ℕ × List ℕ} {B = ℕ} (λ e. e.0)

-- a type or a constructor of it is there already
abbrev pub type_twice : List (List ℕ) → Known → ℕ → List ℕ → Bool
type_twice names k t cs = base_type names t
    || (among (type_names k.enums) t
    || (repeated cs || list_any (λ c. is_some (case_place 0 k.enums c)) cs))

abbrev pub with_line : ℕ → Option Fault → Option (Fault × ℕ)
with_line l None = None
with_line l (Some f) = Some (f, l)

abbrev pub name_numbers : List Name → List ℕ
name_numbers = map {A = Name} {B = ℕ} (λ x. x.0)

abbrev pub or_else : Option (Fault × ℕ) → Option (Fault × ℕ) → Option (Fault × ℕ)
or_else (Some f) g = Some f
or_else None g = g

module _ {N : Type 0} (names : List (List ℕ)) where
  abbrev pub judged : Known → DefOf N → Option (Judged N)
  judged k (DefOf.Cases line t cs) = None
  judged k (DefOf.Let line node f params ms ns body) = Some (record { names = names; known = k; title = f.0; node = node; params = params; body = body })

  -- the first kind of fault that a definition has, and its line
  abbrev pub def_fault : Known → DefOf N → Option (Fault × ℕ)
  def_fault k (DefOf.Cases line t cs) = if type_twice names k t.0 (name_numbers cs) then Some (Twice, line.0) else None
  def_fault k (DefOf.Let line node f params ms ns body) =
      with_line line.0 (fault (record { names = names; known = k; title = f.0; node = node; params = params; body = body }))

  abbrev pub known_after : Known → DefOf N → Known
  known_after k (DefOf.Cases line t cs) = record { enums = k.enums ++ (t.0, name_numbers cs) ∷ []; defs = k.defs }
  known_after k (DefOf.Let line node f params ms ns body) =
      record { enums = k.enums; defs = k.defs ++ seen_later (record { names = names; known = k; title = f.0; node = node; params = params; body = body }) ∷ [] }

  -- the first fault of the first definition that has one
  abbrev pub first_fault : Known → List (DefOf N) → Option (Fault × ℕ)
  first_fault k [] = None
  first_fault k (d ∷ ds) = or_else (def_fault k d) (first_fault (known_after k d) ds)

  -- what stands after definitions
  abbrev pub known_after_all : Known → List (DefOf N) → Known
  known_after_all k [] = k
  known_after_all k (d ∷ ds) = known_after_all (known_after k d) ds
