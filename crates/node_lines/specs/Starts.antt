-- Where the fields of each parameter begin, and the cell of a parameter that is not there.
use Rattle.std.specs.Prelude.{ℕ, ◌+◌, List, [], ◌∷◌, length, Option, None}
use Rattle.line_io.specs.declared.form.Cell.{Cell}
use Rattle.kahn_model.specs.declared.cell.Cell.{Cell as Argument}
use Rattle.ls_terms.specs.declared.types.TypeTerm.{TypeTerm}
use Rattle.node_lines.specs.Leaves.{input_leaves}

abbrev pub starts_from : List TypeTerm → ℕ → List ℕ
starts_from [] at = []
starts_from (t ∷ ts) at = at ∷ starts_from ts (at + length (input_leaves t))

-- the number of the first field of each parameter
abbrev pub starts : List TypeTerm → List ℕ
starts params = starts_from params 0

abbrev pub nowhere : List Cell → Option Argument
nowhere line = None
