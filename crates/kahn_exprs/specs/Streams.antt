-- What stands for a name, by rows that are written down.
use Rattle.std.specs.Prelude.{ℕ, List, [], ◌∷◌, map, Option, Some, if◌then◌else◌}
use Rattle.ls_ast.specs.declared.tree.Pat.{Pat}
use Rattle.kahn_model.specs.declared.cell.Cell.{Cell}
use Rattle.ls_places.specs.declared.definition.Key.TheVariants as key
use Rattle.kahn_model.specs.Functions.{Arg, stream, nowhere}
use Rattle.ls_places.specs.Patterns.{has_name, names_of}
use Rattle.ls_sig.specs.declared.binder.Binder.{Binder}
use Rattle.ls_sig.specs.declared.binder.Binder.TheVariants as binder
use Rattle.kahn_exprs.specs.declared.body.Body.{Body}
use Rattle.kahn_exprs.specs.declared.context.Argument.{Argument, out-Argument}
use Rattle.kahn_exprs.specs.declared.context.Argument.TheOpen.{Argument-F}
use Rattle.kahn_exprs.specs.Context.{arg_of}
use Rattle.kahn_model.specs.Cells.{part}
use Rattle.kahn_model.specs.Rows.{know}
use Rattle.kahn_model.specs.Table.{cell_in, written_row}
use Rattle.kahn_exprs.specs.Standing.{row as table_row}

abbrev pub part_known : Pat → ℕ → Option Cell → Option Cell
part_known p x c = know c (λ c. Some (part p x c))

abbrev pub part_row : Pat → ℕ → List (Option Cell) → List (Option Cell)
part_row p x = map {A = Option Cell} {B = Option Cell} (part_known p x)

-- what is absent on n lines
abbrev pub absent : ℕ → Arg
absent n = stream (cell_in (written_row n 0 nowhere))

abbrev pub part_open : Pat → ℕ → Arg → Argument-F Argument → Arg
part_open p x f (Argument-F.Stream cells) = stream (cell_in (part_row p x cells))
part_open p x f _ = f

-- the part of an argument that a pattern gives to a name
abbrev pub part_of : Pat → ℕ → Argument → Arg
part_of p x arg = part_open p x (arg_of arg) (out-Argument arg)

abbrev pub param : ℕ → ℕ → List Pat → List Argument → Arg
param n x (p ∷ ps) (g ∷ gs) = if has_name x (names_of p) then part_of p x g else param n x ps gs
param n x _ _ = absent n

abbrev pub look : Body → Binder → ℕ → Arg
look b (binder.Var k) x = stream (cell_in (table_row b.rows.now (key.Var k)))
look b (binder.Param k) x = param b.lines x b.def.now.params b.context.now.args
look b _ x = absent b.lines
