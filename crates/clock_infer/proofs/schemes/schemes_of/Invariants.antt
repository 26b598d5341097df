use Rattle.std.proofs.Common.{◌≡◌, ◌++◌, drop, map}
use Rattle.clock_rules.specs.Files as files
use Rattle.clock_infer.proofs.schemes.schemes_of.Given as goal

abbrev pub invariant-loop-sig : goal.invariant-loop-sig
invariant-loop-sig l = l.done ++ map files.scheme_of (drop l.sig-index l.sigs) ≡ map files.scheme_of l.sigs
