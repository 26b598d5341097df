use Rattle.std.proofs.Common.{◌+◌, drop, subst, sym}
use Rattle.std.proofs.lemmas.List.{drop_all}
use Rattle.clock_infer.specs.Filed.{IsClockedAs}
use Rattle.clock_infer.proofs.Answering.{of_some}
use Rattle.clock_infer.proofs.Filing.{Halfway, ended, turn}
use Rattle.clock_infer.proofs.file.clock_all.Goals as goal

pub returns-clause-clocked : goal.returns-clause-clocked
returns-clause-clocked g c =
    ended (g.C.CasePlaces.place c.args.cases.now) c.args.schemes c.args.all.now c.loop-def.so_far.defs c.loop-def.so_far.schemes (drop c.loop-def.def-index c.args.all.now)
    (drop_all c.loop-def.def-index c.args.all.now c.loop-def-test.false) c.loop-def.invariant

pub loop-def-preserved : goal.loop-def-preserved
loop-def-preserved g c =
    subst (λ z. Halfway (g.C.CasePlaces.place c.args.cases.now) c.args.schemes c.args.all.now z c.add_scheme.new.schemes (drop (c.loop-def.def-index + 1) c.args.all.now)) (sym c.in_ok-push-in-Some.ensures.ok)
    (turn (g.C.CasePlaces.place c.args.cases.now) c.args.schemes c.args.all.now c.loop-def.so_far.defs c.loop-def.so_far.schemes c.add_scheme.new.schemes c.loop-def.def-index c.def-item.result c.in-Some.clocked
    c.loop-def-test.true (sym c.def-item.is)
    (subst (λ z. IsClockedAs (g.C.CasePlaces.place c.args.cases.now) z c.def-item.result c.in-Some.clocked) c.as_slice.ensures.value
    (of_some (IsClockedAs (g.C.CasePlaces.place c.args.cases.now) c.as_slice.result.now c.def-item.result) c.in_ok-clock_one.field-0 c.in-Some.clocked c.in-Some.is c.in_ok-clock_one.ensures.clocked)) c.in_ok-add_scheme-in-Some.ensures c.loop-def.invariant)
