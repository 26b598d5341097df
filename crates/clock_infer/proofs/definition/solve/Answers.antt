use Rattle.std.proofs.Common.{◌∙◌, ap, subst, Err}
use Rattle.clock_infer.specs.Prepared.{IsGeneral, IsUnsolvable}
use Rattle.clock_infer.proofs.Solving.{general, pairs_seen, unsolvable}
use Rattle.clock_infer.proofs.definition.solve.Goals as goal

pub returns-in-Ok-clause-solved : goal.returns-in-Ok-clause-solved
returns-in-Ok-clause-solved g c =
    let seen = pairs_seen c.args.schemes.now (g.C.CasePlaces.place c.args.cases.now) c.args.it.now c.args.marks.now c.as_slice.result.now c.as_slice-2.result.now c.as_slice-3.result.now c.as_slice-4.result.now
    c.as_slice.ensures.value c.as_slice-2.ensures.value c.as_slice-3.ensures.value c.as_slice-4.ensures.value in
    subst (λ ps. IsGeneral ps c.in-Ok.by) (c.in_ok-pairs.ensures ∙ seen)
    (general c.in_ok-pairs.pairs.list c.in-Ok.by c.in-Ok.ensures.unifier c.in-Ok.ensures.general c.in-Ok.ensures.small c.in-Ok.ensures.may_stand)

pub returns-in-Err-Clash-clause-unsolved : goal.returns-in-Err-Clash-clause-unsolved
returns-in-Err-Clash-clause-unsolved g c =
    let seen = pairs_seen c.args.schemes.now (g.C.CasePlaces.place c.args.cases.now) c.args.it.now c.args.marks.now c.as_slice.result.now c.as_slice-2.result.now c.as_slice-3.result.now c.as_slice-4.result.now
    c.as_slice.ensures.value c.as_slice-2.ensures.value c.as_slice-3.ensures.value c.as_slice-4.ensures.value in
    subst IsUnsolvable (c.in_ok-pairs.ensures ∙ seen) (unsolvable c.in_ok-pairs.pairs.list (c.in-Err-Clash.ensures.clash (ap Err c.in-Err-Clash.field-0-is)))
