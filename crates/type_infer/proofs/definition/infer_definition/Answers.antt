use Rattle.std.proofs.Common.{ap, Err}
use Rattle.type_infer.proofs.Inferred.{fault_in, typed_by_solution, none_by_fault}
use Rattle.type_infer.proofs.definition.infer_definition.Goals as goal

pub returns-in-Ok-annotate-clause-typed : goal.returns-in-Ok-annotate-clause-typed
returns-in-Ok-annotate-clause-typed g c = λ functions.
    typed_by_solution (g.C.CaseTypes.case_type c.args.cases.now) c.args.sigs.now c.args.def.now c.in-Ok.asked.demands c.in-Ok.ensures.demands c.in-Ok.asked.numbered.notes c.in-Ok.asked.numbered.body
    c.in-Ok-solve.solution.own c.in-Ok-solve.solution.by.list c.in-Ok-annotate.done.notes c.in-Ok-annotate.done.body c.in-Ok.ensures.numbered c.in-Ok-solve.ensures.solved c.in-Ok-annotate.ensures.notes
    c.in-Ok-annotate.ensures.body functions

pub returns-clause-ill : goal.returns-clause-ill
returns-clause-ill g c = λ e.
    none_by_fault (g.C.CaseTypes.case_type c.args.cases.now) c.args.sigs.now c.args.def.now c.in-Ok.asked.demands c.in-Ok.ensures.demands (c.in-Err-solve.ensures.unsolved (ap Err (ap (fault_in c.in-Err-solve.fault) e)))
