use Rattle.std.proofs.Common.{ap, sym, subst, Err}
use Rattle.type_infer.specs.Files as spec
use Rattle.type_infer.proofs.Stages.{line_in, typed_let}
use Rattle.type_infer.proofs.file.infer_def.Goals as goal

pub returns-in-Err-Unsolved-clause-ill : goal.returns-in-Err-Unsolved-clause-ill
returns-in-Err-Unsolved-clause-ill g c = λ line e.
    subst (λ z. spec.IsIll (g.C.CaseTypes.case_type c.args.types.now) 4096 c.args.sigs.now z line) (sym c.in-Let.is)
    (ap (line_in c.in-Let.line) e, c.in-Err-Unsolved.ensures.ill (ap Err c.in-Err-Unsolved.field-0-is))

pub returns-in_ok-copy-in-Let-2-clause-typed : goal.returns-in_ok-copy-in-Let-2-clause-typed
returns-in_ok-copy-in-Let-2-clause-typed g c =
    typed_let (g.C.CaseTypes.case_type c.args.types.now) 4096 c.args.sigs.now c.args.def.now c.in-Let.line c.in-Let.node c.in-Let.name c.in-Let.params c.in_ok-copy-in-Let.field-0 c.in-Let.marks
    c.in_ok-copy-in-Let-2.field-0 c.in-Let.notes c.in-Let.body c.in-Ok.done.notes c.in-Ok.done.body c.in-Let.is c.in_ok-copy-in-Let.ensures c.in_ok-copy-in-Let-2.ensures c.in-Ok.ensures.typed
