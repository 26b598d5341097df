use Rattle.clock_rules.specs.Judged.{IsPrincipal}
use Rattle.clock_infer.specs.declared.definition.Clocked.{Clocked}
use Rattle.clock_infer.proofs.Answering.{of_some}
use Rattle.clock_infer.proofs.Filing.{annotated}
use Rattle.clock_infer.proofs.file.clock_one.Goals as goal

pub returns-in_ok-copy-in-Some-2-clause-clocked : goal.returns-in_ok-copy-in-Some-2-clause-clocked
returns-in_ok-copy-in-Some-2-clause-clocked g c =
    annotated (g.C.CasePlaces.place c.args.cases.now) c.args.schemes.now c.args.def.now c.in-Let.line c.in-Let.node c.in-Let.name c.in-Let.params c.in-Let.marks c.in-Let.notes c.as_slice.result.now c.in-Let.body
    c.in-Let.is c.as_slice.ensures.value c.in_ok-copy-in-Some.field-0 c.in_ok-copy-in-Some-2.field-0 c.in-Some.clocked.notes c.in-Some.clocked.body c.in_ok-copy-in-Some.ensures
    c.in_ok-copy-in-Some-2.ensures
    (of_some (λ (r : Clocked). IsPrincipal c.args.schemes.now (g.C.CasePlaces.place c.args.cases.now) c.in-Let.params c.in-Let.marks c.as_slice.result.now c.in-Let.body r.notes r.body) c.in_ok-clock_definition-in-Let.field-0 c.in-Some.clocked c.in-Some.is c.in_ok-clock_definition-in-Let.ensures.principal)
