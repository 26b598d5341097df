-- The definitions of a file, with what stands where in them.
use Rattle.std.specs.Prelude.{ℕ, zero, suc, ◌==◌, List, [], ◌∷◌, map, length, Option, Some, None, if◌then◌else◌}
use Rattle.ls_base.specs.declared.Name.{Name}
use Rattle.ls_ast.specs.declared.tree.BodyOf.{BodyOf}
use Rattle.ls_ast.specs.declared.tree.DefOf.{DefOf}
use Rattle.ls_ast.specs.declared.tree.DefOf.TheVariants as item
use Rattle.ls_ast.specs.declared.tree.Pat.{Pat}
use Rattle.ls_terms.specs.declared.clocks.ClockTerm.{ClockTerm}
use Rattle.ls_sig.specs.declared.binder.Note.{Note}
use Rattle.ls_places.specs.Clocks.{is_signal, or_else}
use Rattle.ls_places.specs.Places.{find}
use Rattle.ls_places.specs.declared.definition.Definition.{Definition}

-- the place of a name in a list
abbrev pub place_in : ℕ → List Name → ℕ → Option ℕ
place_in x [] k = None
place_in x (y ∷ ys) k = if y.0 == x then Some k else place_in x ys (suc k)

module _ {N : Type 0} where
  -- the place of a constructor in its enumeration
  abbrev pub constructor_place : List (DefOf N) → ℕ → Option ℕ
  constructor_place [] x = None
  constructor_place (item.Cases line name cases ∷ rest) x = or_else (place_in x cases 0) (constructor_place rest x)
  constructor_place (item.Let line node name params marks notes body ∷ rest) x = constructor_place rest x

  -- the place of a case: the names of `false` and `true` are 0 and 1
  abbrev pub case_place : List (DefOf N) → ℕ → Option ℕ
  case_place all zero = Some 0
  case_place all (suc zero) = Some 1
  case_place all x = constructor_place all x

  -- the number of the `let` definition of this name
  abbrev pub number_of : List (DefOf N) → ℕ → ℕ → Option ℕ
  number_of [] x k = None
  number_of (item.Cases line name all ∷ rest) x k = number_of rest x k
  number_of (item.Let line node name params marks notes body ∷ rest) x k = if name.0 == x then Some k else number_of rest x (suc k)

abbrev pub note_clocks : List Note → List ClockTerm
note_clocks = map {A = Note} {B = ClockTerm} (λ n. n.ck)

module _ (cases : ℕ → Option ℕ) where
  -- a definition, with what stands where in its body
  abbrev pub definition_of : List Pat → List Note → BodyOf Note → Definition
  definition_of params notes body = record {
    params = params;
    clocks = note_clocks notes;
    result = body.result;
    places = find Note (length params) cases (λ e. is_signal e.note) body;
  }

  -- the `let` definitions
  abbrev pub definitions : List (DefOf Note) → List Definition
  definitions [] = []
  definitions (item.Cases line name all ∷ rest) = definitions rest
  definitions (item.Let line node name params marks notes body ∷ rest) = definition_of params notes body ∷ definitions rest
