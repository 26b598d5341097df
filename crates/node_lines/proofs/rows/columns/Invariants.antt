use Rattle.std.proofs.Common.{◌≡◌, map}
use Rattle.ls_places.specs.Search.{count_up}
use Rattle.node_lines.specs.Arguments as spec
use Rattle.node_lines.proofs.rows.columns.Given as goal

abbrev pub invariant-loop-m : goal.invariant-loop-m
invariant-loop-m l = l.done ≡ map (spec.column l.sig.params l.sig.clocks l.lines) (count_up l.m 0)
