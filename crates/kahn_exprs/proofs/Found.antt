-- Rows of a table and of parts, cell by cell.
use Rattle.std.specs.Prelude.{◌≡◌, refl, ℕ, zero, suc, ◌-◌, ◌<◌, ◌≤◌, length, nat_lt, Bool, true, false, List, [], ◌∷◌, Option, Some, None, if◌then◌else◌}
use Rattle.std.proofs.Common.{ap, arith, sym, ◌∙◌}
use Rattle.ls_ast.specs.declared.tree.Pat.{Pat}
use Rattle.kahn_model.specs.declared.cell.Cell.{Cell}
use Rattle.kahn_model.specs.Rows.{know}
use Rattle.kahn_model.specs.Cells.{part}
use Rattle.kahn_model.specs.Table.{cell_in}
use Rattle.kahn_model.specs.Functions.{arg_at, row_of}
use Rattle.kahn_model.specs.declared.cell.Cell.TheVariants.{Absent}
use Rattle.kahn_model.specs.Turn
use Rattle.ls_places.specs.Search.{nth}
use Rattle.ls_places.specs.declared.places.Named.{Named}
use Rattle.ls_places.specs.declared.places.Named.TheVariants as named
use Rattle.kahn_exprs.specs.declared.body.Body.{Body}
use Rattle.kahn_exprs.specs.declared.context.Argument.{Argument}
use Rattle.kahn_exprs.specs.Body as spec
use Rattle.kahn_exprs.specs.Context.{arg_of, arg_row, args_of}
use Rattle.kahn_exprs.specs.Streams.{part_row}

pub part_at : (p : Pat) (x : ℕ) (cells : List (Option Cell)) (i : ℕ) → cell_in (part_row p x cells) i ≡ know (cell_in cells i) (λ c. Some (part p x c))
part_at p x [] i = refl
part_at p x (c ∷ cells) zero = refl
part_at p x (c ∷ cells) (suc i) = part_at p x cells i

-- the row of an argument that was looked up
abbrev pub found_cell : Option Argument → ℕ → Option Cell
found_cell None i = Some Absent
found_cell (Some g) i = row_of (arg_of g) i

pub arg_found : (m : ℕ) (args : List Argument) (i : ℕ) → arg_row m args i ≡ found_cell (nth args m) i
arg_found m [] i = refl
arg_found zero (g ∷ args) i = refl
arg_found (suc m) (g ∷ args) i = arg_found m args i

module _ (b : Body) where
  pub named_found : (n : Option Named) (m i : ℕ) → Turn.named_row (spec.cases b) b.defs.now (spec.call b) b.def.now (spec.around b) (spec.table b) n m i ≡ spec.table b (spec.named_key n m) i
  named_found None m i = refl
  named_found (Some (named.Clock x)) m i = refl
  named_found (Some (named.Match e all p)) m i = refl
  named_found (Some (named.Present xs p)) m i = refl
  named_found (Some (named.Active states p)) m i = refl
  named_found (Some (named.Tested states p)) m i = refl

  below_is : (m n : ℕ) → m < n → nat_lt m n ≡ true
  below_is m n l = grind (arith, l)

  not_below_is : (m n : ℕ) → n ≤ m → nat_lt m n ≡ false
  not_below_is m n l = grind (arith, l)

  pub case_param : (m i : ℕ) → m < length b.def.now.params → arg_row m b.context.now.args i ≡ spec.case_row b m i
  case_param m i l = sym (ap (λ z. (if z then (λ (j : ℕ). arg_row m b.context.now.args j) else
      Turn.named_row (spec.cases b) b.defs.now (spec.call b) b.def.now (spec.around b) (spec.table b) (nth b.def.now.places.names (m - length b.def.now.params)) m) i) (below_is m (length b.def.now.params) l))

  pub case_named : (m i : ℕ) (o : Option Named) → length b.def.now.params ≤ m → o ≡ nth b.def.now.places.names (m - length b.def.now.params) → spec.table b (spec.named_key o m) i ≡ spec.case_row b m i
  case_named m i o l e =
      sym (named_found o m i)
      ∙ ap (λ z. Turn.named_row (spec.cases b) b.defs.now (spec.call b) b.def.now (spec.around b) (spec.table b) z m i) e
      ∙ sym (ap (λ z. (if z then (λ (j : ℕ). arg_row m b.context.now.args j) else
      Turn.named_row (spec.cases b) b.defs.now (spec.call b) b.def.now (spec.around b) (spec.table b) (nth b.def.now.places.names (m - length b.def.now.params)) m) i) (not_below_is m (length b.def.now.params) l))
