-- What is around a node that is run.
use Rattle.std.specs.Prelude.{ℕ, true, false, List, map, Option, Some}
use Rattle.kahn_model.specs.declared.cell.Cell.{Cell}
use Rattle.kahn_model.specs.Functions.{Arg, stream}
use Rattle.kahn_model.specs.Table.{cell_in, written_row}
use Rattle.kahn_exprs.specs.declared.context.Argument.{Argument}
use Rattle.kahn_exprs.specs.declared.context.Argument.TheVariants.{Stream}
use Rattle.kahn_exprs.specs.declared.context.Clocks.TheVariants as clocks
use Rattle.kahn_exprs.specs.declared.context.Context.{Context}

-- rows that stand, as what stands for parameters: beyond their cells nothing is known
abbrev pub streams : List (List (Option Cell)) → List Arg
streams = map {A = List (Option Cell)} {B = Arg} (λ cells. stream (cell_in cells))

-- on n lines
abbrev pub run_context : ℕ → List (List (Option Cell)) → Context
run_context n args = record {
  active = written_row n 0 (λ i. Some true);
  again = written_row n 0 (λ i. Some false);
  clocks = clocks.All (written_row n 0 (λ i. Some true));
  args = map {A = List (Option Cell)} {B = Argument} Stream args;
}
