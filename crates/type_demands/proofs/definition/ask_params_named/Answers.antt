use Rattle.std.proofs.Common.{ap, ◌∙◌, ◌++◌}
use Rattle.type_demands.specs.Walks as spec
use Rattle.type_demands.proofs.Names.{params_turn}
use Rattle.type_demands.proofs.definition.ask_params_named.Goals as goal

pub loop-k-preserved : goal.loop-k-preserved
loop-k-preserved g c =
    params_turn g.C.CaseTypes.case_type c.args.given.now c.loop-k.k c.loop-k.out c.ask_name.new.out _ c.loop-k-test.true
    (c.in_ok-ask_name.ensures ∙ ap (λ m. c.loop-k.out ++ spec.name_asks g.C.CaseTypes.case_type c.args.given.now m c.loop-k.k) c.mark.ensures) c.loop-k.invariant
