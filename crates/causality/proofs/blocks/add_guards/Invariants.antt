use Rattle.std.proofs.Common.{◌≡◌, ◌++◌, drop}
use Rattle.causality.specs.Rows as rows
use Rattle.causality.proofs.blocks.add_guards.Given as goal

abbrev pub invariant-loop-guard : goal.invariant-loop-guard
invariant-loop-guard l = l.out ++ rows.guard_wholes (drop l.guard-index l.all) ≡ l.initial.out ++ rows.guard_wholes l.all
