-- What stands at expressions, by rows that are written down.
use Rattle.std.specs.Prelude.{ℕ, List, [], map, Option, None}
use Rattle.ls_ast.specs.declared.tree.Case.{Case}
use Rattle.ls_ast.specs.declared.tree.Expr.{Expr}
use Rattle.ls_places.specs.Places.{Place}
use Rattle.ls_sig.specs.declared.binder.Binder.{Binder}
use Rattle.ls_sig.specs.declared.binder.Binder.TheVariants as binder
use Rattle.ls_sig.specs.declared.binder.Note.{Note}
use Rattle.kahn_model.specs.declared.cell.Cell.{Cell}
use Rattle.kahn_model.specs.Cells.{at}
use Rattle.kahn_model.specs.Functions.{Arg, stream, row_of}
use Rattle.kahn_model.specs.Table.{written_row}
use Rattle.kahn_exprs.specs.declared.body.Body.{Body}
use Rattle.kahn_exprs.specs.declared.rules.Rule.{Rule}
use Rattle.kahn_exprs.specs.Body as spec
use Rattle.kahn_exprs.specs.Calls.{called, cut}
use Rattle.kahn_exprs.specs.Instance.{head}
use Rattle.kahn_exprs.specs.Rules.{rule_cell}
use Rattle.kahn_exprs.specs.Streams.{look}

module _ (b : Body) where
  abbrev pub look_row : Binder → ℕ → List (Option Cell)
  look_row bound x = written_row b.lines 0 (row_of (look b bound x))

  abbrev pub on_clock : Note → Arg → Arg
  on_clock note (stream row) = stream (cut b.lines (λ i. at (spec.on b note.ck i) (row i)))
  on_clock note f = f

  module _ (p : Place) where
    abbrev pub ruled : Note → Rule → Arg
    ruled note rule = stream (cut b.lines (rule_cell b p note rule))

    abbrev pub used_by : Note → ℕ → Binder → Arg
    used_by note x (binder.Def k) = called b p note (head b note x []) [] None
    used_by note x bound = look b bound x

    abbrev pub used : Note → ℕ → Arg
    used note x = used_by note x note.bound

    abbrev pub value : Expr Note → Arg
    value e = (spec.said b p e).arg

    abbrev pub row : Expr Note → List (Option Cell)
    row e = written_row b.lines 0 (spec.cell b p e)

    abbrev pub rows : List (Expr Note) → List (List (Option Cell))
    rows = map {A = Expr Note} {B = List (Option Cell)} row

    abbrev pub branch_rows : List (Case × Expr Note) → List (List (Option Cell))
    branch_rows = map {A = Case × Expr Note} {B = List (Option Cell)} (λ c. row c.1)
