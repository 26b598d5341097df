-- The scope of a file after an environment.
use Rattle.std.specs.Prelude.{◌≡◌, ℕ, Bool, true, false, List, [], ◌∷◌, map, length, slice_get, Option, Some, None}
use Rattle.std.specs.List.{list_any}
use Rattle.ls_base.specs.declared.Name.{Name}
use Rattle.ls_terms.specs.declared.types.Kind.{Kind}
use Rattle.ls_terms.specs.declared.types.Kind.TheVariants as kind
use Rattle.ls_sig.specs.Notes.{is_signal}
use Rattle.std.specs.Str.{bytes_eq}
use Rattle.ls_base.specs.Names.{with_name}
use Rattle.ls_ast.specs.declared.tree.FileOf.{FileOf}
use Rattle.ls_sig.specs.declared.binder.Use.{Use}
use Rattle.ls_sig.specs.declared.env.Env.{Env}
use Rattle.ls_sig.specs.declared.sigs.Sig.{Sig}
use Rattle.scope_rules.specs.Places.{option_list}
use Rattle.scope_rules.specs.Claims.{Earlier, Known}
use Rattle.scope_rules.specs.Faults.{Fault, place_where}
use Rattle.scope_rules.specs.File.{first_fault}
use Rattle.scope_rules.specs.Resolved.{resolved_defs}

-- An environment stands for earlier definitions. Its names are those of the file, then those that the file lacks.

abbrev pub joint : List (List ℕ) → List (List ℕ) → List (List ℕ)
joint own [] = own
joint own (x ∷ xs) = joint (with_name own x) xs

abbrev pub number_or : Option ℕ → ℕ → ℕ
number_or (Some k) n = k
number_or None n = n

abbrev pub spelled_as : List (List ℕ) → ℕ → List ℕ → Bool
spelled_as theirs x text = list_any (bytes_eq text) (option_list (slice_get theirs x))

-- the number that a name of the environment has among the joint ones
abbrev pub renumbered : List (List ℕ) → List (List ℕ) → ℕ → ℕ
renumbered names theirs x = number_or (place_where (spelled_as theirs x) names) (length names)

abbrev pub is_seq : Kind → Bool
is_seq kind.Seq = true
is_seq kind.Comb = false

abbrev pub earlier_of : (ℕ → ℕ) → Sig → Earlier
earlier_of f s = record { title = f s.name.0; node = is_seq s.kind; marks = s.marks; answers = is_signal s.result }

abbrev pub enum_as : (ℕ → ℕ) → Name × List Name → ℕ × List ℕ
enum_as f e = (f e.0.0, map {A = Name} {B = ℕ} (λ c. f c.0) e.1)

abbrev pub known_with : (ℕ → ℕ) → Env → Known
known_with f env = record { enums = map (enum_as f) env.enums; defs = map (earlier_of f) env.sigs }

abbrev pub names_after : Env → List (List ℕ) → List (List ℕ)
names_after env own = joint own env.names

abbrev pub known_by : Env → List (List ℕ) → Known
known_by env own = known_with (renumbered (names_after env own) env.names) env

module _ {N : Type 0} where
  -- the first fault of a file after an environment, and its line; none where scope holds
  abbrev pub scope_fault : Env → FileOf N → Option (Fault × ℕ)
  scope_fault env file = first_fault (names_after env file.names) (known_by env file.names) file.defs

  -- the file with its binders and marks
  abbrev pub resolved : Env → FileOf N → FileOf Use
  resolved env file = record {
    defs = resolved_defs (names_after env file.names) (known_by env file.names) file.defs;
    names = names_after env file.names;
  }
