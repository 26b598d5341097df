use Rattle.std.proofs.Common.{◌≡◌, ◌++◌, drop}
use Rattle.clock_infer.specs.Signatures as spec
use Rattle.clock_infer.proofs.signatures.schemes_in.Given as goal

abbrev pub invariant-loop-def : goal.invariant-loop-def
invariant-loop-def l = l.done ++ spec.schemes_in (drop l.def-index l.all) ≡ spec.schemes_in l.all
