use Rattle.std.proofs.Common.{sym}
use Rattle.type_solve.proofs.Sizes.{fit_turn}
use Rattle.type_solve.proofs.pairs.fits_width.Goals as goal

pub loop-fit-preserved : goal.loop-fit-preserved
loop-fit-preserved c =
    fit_turn c.args.fits.now c.loop-fit.fit-index c.fit-item.result c.loop-fit.most c.above_term.result c.max-most.result _ c.loop-fit-test.true (sym c.fit-item.is) c.above_term.ensures c.max-most.ensures c.loop-fit.invariant
