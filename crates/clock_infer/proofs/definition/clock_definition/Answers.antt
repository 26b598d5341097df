use Rattle.clock_infer.specs.Prepared.{IsGeneral, IsUnsolvable, pairs}
use Rattle.clock_infer.proofs.Answering.{of_none, of_some}
use Rattle.clock_infer.proofs.Judging.{checked_none, checked_principal, many_blocks, many_vars, none_unsolved}
use Rattle.clock_infer.proofs.definition.clock_definition.Goals as goal

pub returns-in-None-clause-none : goal.returns-in-None-clause-none
returns-in-None-clause-none g c =
    none_unsolved c.args.schemes.now (g.C.CasePlaces.place c.args.cases.now) c.args.params.now c.args.marks.now c.args.notes.now c.args.body.now c.in_ok-it.it
    (c.in_ok-it.ensures c.args.schemes.now c.args.marks.now)
    (of_none (IsUnsolvable (pairs c.args.schemes.now (g.C.CasePlaces.place c.args.cases.now) c.args.marks.now c.in_ok-it.it)) c.in_ok-solve.field-0 c.in-None.is c.in_ok-solve.ensures.unsolved)

pub check-requires-clause-vars : goal.check-requires-clause-vars
check-requires-clause-vars g c =
    many_vars c.args.schemes.now (g.C.CasePlaces.place c.args.cases.now) c.args.params.now c.args.marks.now c.args.notes.now c.args.body.now c.in_ok-it.it
    (c.in_ok-it.ensures c.args.schemes.now c.args.marks.now)

pub check-requires-clause-blocks : goal.check-requires-clause-blocks
check-requires-clause-blocks g c =
    many_blocks c.args.schemes.now (g.C.CasePlaces.place c.args.cases.now) c.args.params.now c.args.marks.now c.args.notes.now c.args.body.now c.in_ok-it.it
    (c.in_ok-it.ensures c.args.schemes.now c.args.marks.now)

pub returns-clause-principal : goal.returns-clause-principal
returns-clause-principal g c =
    checked_principal c.args.schemes.now (g.C.CasePlaces.place c.args.cases.now) c.args.params.now c.args.marks.now c.args.notes.now c.args.body.now c.in_ok-it.it
    (c.in_ok-it.ensures c.args.schemes.now c.args.marks.now) c.in-Some.by
    (of_some (IsGeneral (pairs c.args.schemes.now (g.C.CasePlaces.place c.args.cases.now) c.args.marks.now c.in_ok-it.it)) c.in_ok-solve.field-0 c.in-Some.by c.in-Some.is c.in_ok-solve.ensures.solved)
    c.check.result c.check.ensures.met

pub returns-clause-none : goal.returns-clause-none
returns-clause-none g c =
    checked_none c.args.schemes.now (g.C.CasePlaces.place c.args.cases.now) c.args.params.now c.args.marks.now c.args.notes.now c.args.body.now c.in_ok-it.it
    (c.in_ok-it.ensures c.args.schemes.now c.args.marks.now) c.in-Some.by
    (of_some (IsGeneral (pairs c.args.schemes.now (g.C.CasePlaces.place c.args.cases.now) c.args.marks.now c.in_ok-it.it)) c.in_ok-solve.field-0 c.in-Some.by c.in-Some.is c.in_ok-solve.ensures.solved)
    c.check.result c.check.ensures.unmet
