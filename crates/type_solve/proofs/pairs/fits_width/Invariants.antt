use Rattle.std.proofs.Common.{◌≡◌, drop, max}
use Rattle.type_rules.specs.Demands as spec
use Rattle.type_solve.proofs.pairs.fits_width.Given as goal

abbrev pub invariant-loop-fit : goal.invariant-loop-fit
invariant-loop-fit l = max l.most (spec.above (spec.scheme_vars (drop l.fit-index l.fits))) ≡ spec.above (spec.scheme_vars l.fits)
