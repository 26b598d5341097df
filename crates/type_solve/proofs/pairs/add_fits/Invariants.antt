use Rattle.std.proofs.Common.{◌≡◌, ◌++◌, drop}
use Rattle.type_rules.specs.Demands as spec
use Rattle.type_solve.proofs.pairs.add_fits.Given as goal

abbrev pub invariant-loop-fit : goal.invariant-loop-fit
invariant-loop-fit l = l.list ++ spec.fit_pairs l.own l.first (drop l.fit-index l.fits) ≡ l.initial.list ++ spec.fit_pairs l.own l.first l.fits
