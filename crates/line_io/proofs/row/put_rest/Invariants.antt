use Rattle.std.proofs.Common.{◌≤◌, ◌++◌, take}
use Rattle.line_io.specs.Rows.{Begins, rest_text}
use Rattle.line_io.proofs.row.put_rest.Given as goal

abbrev pub invariant-loop-cell : goal.invariant-loop-cell
invariant-loop-cell g l =
    record {
      begun : Begins (g.K.Sink.written l.fn.out) (l.fn.pending.items ++ rest_text l.form (take l.cell-index l.cells)) (g.K.Sink.written l.out) l.pending.items;
      counted : g.K.Sink.count l.fn.out ≤ g.K.Sink.count l.out;
    }
