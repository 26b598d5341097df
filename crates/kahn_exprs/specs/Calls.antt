-- Calls by rows that are written down.
use Rattle.std.specs.Prelude.{ℕ, Bool, List, ◌∷◌, Option, Some, None, if◌then◌else◌, unwrap_or}
use Rattle.ls_places.specs.Places.{Place}
use Rattle.ls_sig.specs.declared.binder.Note.{Note}
use Rattle.kahn_model.specs.declared.cell.Cell.{Cell}
use Rattle.ls_places.specs.Clocks.{is_function}
use Rattle.kahn_model.specs.Functions.{Arg, stream, def, given, Around, Meaning, give_args, nowhere}
use Rattle.kahn_model.specs.Rows.{Row}
use Rattle.kahn_model.specs.Table.{cell_in, written_row}
use Rattle.kahn_exprs.specs.declared.body.Body.{Body}
use Rattle.kahn_exprs.specs.declared.context.Context.{Context}
use Rattle.kahn_exprs.specs.Body as spec
use Rattle.kahn_exprs.specs.Context.{around_of}
use Rattle.kahn_exprs.specs.Rules.{restart}

-- the definition that a function value calls, and what is around its body
abbrev pub target : Arg → List Arg → Row Bool → Row Bool → Row Bool → Option (ℕ × Around)
target (stream row) args here active again = None
target (def k clocks) args here active again = Some (k, record { active = active; again = again; clocks = unwrap_or clocks (λ w. here); args = args })
target (given f x) args here active again = target f (x ∷ args) here active again

abbrev pub place_of : ℕ × Context → ℕ × Around
place_of p = (p.0, around_of p.1)

abbrev pub target_row : Meaning → Option (ℕ × Around) → Row Cell
target_row call None = nowhere
target_row call (Some p) = call p.0 p.1

-- a row of which n cells are kept
abbrev pub cut : {A : Type 0} → ℕ → Row A → Row A
cut n row = cell_in (written_row n 0 row)

module _ (b : Body) (p : Place) (note : Note) where
  abbrev pub target_at : Arg → List Arg → Option (List (Option Cell)) → Option (ℕ × Around)
  target_at f args every = target f args (cut b.lines (spec.on b note.ck)) (cut b.lines (spec.active b p)) (cut b.lines (restart b p every))

  -- what stands at a call
  abbrev pub called : Arg → List Arg → Option (List (Option Cell)) → Arg
  called f args every = if is_function note then give_args f args else stream (cut b.lines (target_row (spec.call b) (target_at f args every)))
