use Rattle.std.proofs.Common.{◌≡◌, ◌++◌, drop}
use Rattle.type_rules.specs.Files.{lets}
use Rattle.type_schemes.specs.Signatures as spec
use Rattle.type_schemes.proofs.signatures.type_signatures.Given as goal

abbrev pub invariant-loop-def : goal.invariant-loop-def
invariant-loop-def l = l.list ++ spec.signatures_of (lets (drop l.def-index l.defs)) ≡ spec.signatures_of (lets l.defs)
