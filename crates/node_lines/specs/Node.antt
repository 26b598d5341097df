-- The definitions of a file as nodes that run on lines.
use Rattle.std.specs.Prelude.{ℕ, Bool, true, List, [], ◌∷◌, ◌++◌, map, length, Option, None, Some}
use Rattle.line_io.specs.declared.form.Cell.{Cell}
use Rattle.line_io.specs.declared.form.InputForm.{InputForm}
use Rattle.line_io.specs.Rows.{row_text}
use Rattle.run_text.specs.declared.machine.AlarmKind.{AlarmKind}
use Rattle.run_text.specs.declared.machine.AlarmKind.TheVariants.{Division}
use Rattle.run_text.specs.RunText.{Node}
use Rattle.ls_ast.specs.declared.tree.DefOf.{DefOf}
use Rattle.ls_sig.specs.declared.binder.Note.{Note}
use Rattle.ls_sig.specs.declared.sigs.Sig.{Sig}
use Rattle.kahn_model.specs.declared.cell.Cell.{Cell as Argument}
use Rattle.kahn_model.specs.Functions.{Arg, stream}
use Rattle.kahn_model.specs.Program as program
use Rattle.kahn_model.specs.Table.{cell_in}
use Rattle.node_lines.specs.Arguments.{columns}
use Rattle.node_lines.specs.Form as lines
use Rattle.node_lines.specs.Results.{result_cells}

-- rows that stand, as what stands for parameters: beyond their cells nothing is known
abbrev pub streams : List (List (Option Argument)) → List Arg
streams = map {A = List (Option Argument)} {B = Arg} (λ cells. stream (cell_in cells))

abbrev pub alarm_of : Option Bool → Option AlarmKind
alarm_of (Some true) = Some Division
alarm_of _ = None

module _ (all : List (DefOf Note)) (names : List (List ℕ)) (sig : Sig) (k : ℕ) where
  abbrev pub form : InputForm
  form = lines.form (lines.constructors all) names sig

  -- what these lines give to the parameters
  abbrev pub args : List (List Cell) → List Arg
  args inputs = streams (columns sig.params sig.clocks inputs)

  -- the result, and the alarm, at an instant of the network on these lines
  abbrev pub result_at : List (List Cell) → ℕ → List Cell
  result_at inputs i = result_cells sig.result (program.network all (length inputs) k (args inputs) i)

  abbrev pub alarm_at : List (List Cell) → ℕ → Option AlarmKind
  alarm_at inputs i = alarm_of (program.alarms all (length inputs) k (args inputs) i)

  -- The definition k, of this signature, as a node that runs. At each line it answers by the network on the lines up to this one;
  -- of an accepted definition that may run no cell there is unknown.
  abbrev pub node : Node
  node = record {
    form = form;
    row_at = λ before now. row_text form (result_at (before ++ now ∷ []) (length before));
    alarm_at = λ before now. alarm_at (before ++ now ∷ []) (length before);
  }
