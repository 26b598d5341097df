use Rattle.std.proofs.Common.{◌-◌, get_or, length, refl}
use Rattle.kahn_exprs.specs.Body as spec
use Rattle.kahn_plain.proofs.Rights.{no_sites, sites_are, sites_next}
use Rattle.kahn_plain.proofs.equations.by_sites.Goals as goal

pub loop-back-init : goal.loop-back-init
loop-back-init g c = no_sites c.args.body.now c.args.w.now (spec.otherwise c.args.body.now c.args.x c.args.w.now) c.sites_of-numbers.result.now c.in_ok-done.done c.in_ok-done.ensures

pub loop-back-preserved : goal.loop-back-preserved
loop-back-preserved g c =
    let all = c.sites_of-numbers.result.now in
    sites_next c.args.body.now c.args.w.now (spec.otherwise c.args.body.now c.args.x c.args.w.now) all c.loop-back.back (get_or all (length all - 1 - c.loop-back.back) 0) c.loop-back.done
    c.in_ok-done-2.done c.loop-back-test.true refl c.in_ok-done-2.ensures c.loop-back.invariant

pub returns : goal.returns
returns g c = sites_are c.args.body.now c.args.x c.args.w.now c.sites_of-numbers.result.now c.loop-back.back c.loop-back.done c.loop-back-test.false c.sites_of-numbers.ensures c.loop-back.invariant
