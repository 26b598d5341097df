use Rattle.ls_scope.proofs.Blame.{let_scoped, let_blamed, let_made}
use Rattle.ls_scope.proofs.calls.resolve_definition.Goals as goal

pub returns-in-Err-clause-fault : goal.returns-in-Err-clause-fault
returns-in-Err-clause-fault g c =
    let_blamed c.args.names.now c.args.known c.args.def.now c.in-Let.line c.in-Let.node c.in-Let.name c.in-Let.params c.as_slice.result.now c.in-Let.marks c.in-Let.notes c.in-Let.body c.in-Let.is c.as_slice.ensures.value
    c.in-Err.fault c.in-Err.ensures.fault

pub returns-in_ok-known-in-Let-clause-scoped : goal.returns-in_ok-known-in-Let-clause-scoped
returns-in_ok-known-in-Let-clause-scoped g c =
    let_scoped c.args.names.now c.args.known c.args.def.now c.in-Let.line c.in-Let.node c.in-Let.name c.in-Let.params c.as_slice.result.now c.in-Let.marks c.in-Let.notes c.in-Let.body c.in-Let.is c.as_slice.ensures.value
    c.in-Ok.ensures.scoped

pub returns-in_ok-known-in-Let-clause-made : goal.returns-in_ok-known-in-Let-clause-made
returns-in_ok-known-in-Let-clause-made g c =
    let_made c.args.names.now c.args.known c.args.def.now c.in-Let.line c.in-Let.node c.in-Let.name c.in-Let.params c.as_slice.result.now c.in-Let.marks c.in-Let.notes c.in-Let.body c.in-Let.is c.as_slice.ensures.value
    c.in-Ok.judgement c.in_ok-copy-in-Let.field-0 c.as_slice-in-Let.result.now c.in_ok-no_uses-in-Let.field-0 c.in_ok-known-in-Let.known
    c.in-Ok.ensures.made c.in_ok-copy-in-Let.ensures c.as_slice-in-Let.ensures.value c.in_ok-no_uses-in-Let.ensures c.in_ok-known-in-Let.ensures
