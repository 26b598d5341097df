use Rattle.std.specs.Prelude.{◌≡◌, ◌+◌, ◌∷◌}
use Rattle.std.proofs.Common.{drop, arith}
use Rattle.std.proofs.lemmas.Grind.{common_steps}
use Rattle.ls_scope.proofs.Blame.{all_blamed}
use Rattle.ls_scope.proofs.calls.resolve_all.Goals as goal

pub returns-in-Err-clause-fault : goal.returns-in-Err-clause-fault
returns-in-Err-clause-fault g c =
    let e : drop c.loop-def.def-index c.args.defs.now ≡ c.def-item.result ∷ drop (c.loop-def.def-index + 1) c.args.defs.now = grind (arith, common_steps) in
    all_blamed c.args.names.now c.args.before c.loop-def.known c.args.defs.now c.loop-def.def-index c.def-item.result e c.in-Err.fault c.loop-def.invariant.0 c.in-Err.ensures.fault
