-- What is around a body, as the network has it: beyond the cells of a row nothing is known.
use Rattle.std.specs.Prelude.{ℕ, ◌==◌, Bool, false, List, [], ◌∷◌, map, Option, Some, None, if◌then◌else◌}
use Rattle.kahn_model.specs.declared.cell.Cell.{Cell}
use Rattle.kahn_model.specs.Functions.{Arg, stream, def, given, arg_at, row_of, Around}
use Rattle.kahn_model.specs.Rows.{Row}
use Rattle.kahn_model.specs.Table.{cell_in}
use Rattle.kahn_exprs.specs.declared.context.Argument.{Argument, fold-Argument}
use Rattle.kahn_exprs.specs.declared.context.Argument.TheOpen.{Argument-F}
use Rattle.kahn_exprs.specs.declared.context.Clocks.{Clocks}
use Rattle.kahn_exprs.specs.declared.context.Clocks.TheVariants as clocks
use Rattle.kahn_exprs.specs.declared.context.Context.{Context}

-- the row of a clock variable among some; no other is on
abbrev pub clock_in : List (ℕ × List (Option Bool)) → ℕ → Row Bool
clock_in [] w i = Some false
clock_in (r ∷ rows) w i = if w == r.0 then cell_in r.1 i else clock_in rows w i

abbrev pub clocks_of : Clocks → ℕ → Row Bool
clocks_of (clocks.Each rows) w = clock_in rows w
clocks_of (clocks.All row) w = cell_in row

abbrev pub arg_step : Argument-F Arg → Arg
arg_step (Argument-F.Stream cells) = stream (cell_in cells)
arg_step (Argument-F.Function k rows) = def k (Some (clock_in rows))
arg_step (Argument-F.Pointwise k) = def k None
arg_step (Argument-F.Given f x) = given f x

abbrev pub arg_of : Argument → Arg
arg_of = fold-Argument Arg arg_step

abbrev pub args_of : List Argument → List Arg
args_of = map {A = Argument} {B = Arg} arg_of

-- the row of the parameter of this number
abbrev pub arg_row : ℕ → List Argument → Row Cell
arg_row m args = row_of (arg_at m (args_of args))

abbrev pub around_of : Context → Around
around_of c = record { active = cell_in c.active; again = cell_in c.again; clocks = clocks_of c.clocks; args = args_of c.args }
