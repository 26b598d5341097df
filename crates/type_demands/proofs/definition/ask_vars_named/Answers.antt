use Rattle.std.proofs.Common.{◌+◌, ◌<◌, length, arith, ap, sym, ◌∙◌}
use Rattle.type_demands.specs.Walks as spec
use Rattle.type_demands.proofs.Names.{vars_turn}
use Rattle.type_demands.proofs.definition.ask_vars_named.Goals as goal
use Rattle.type_demands.proofs.definition.ask_vars_named.Goals.{then-is_signal, else-is_signal}

pub loop-k-preserved : goal.loop-k-preserved
loop-k-preserved g c =
    let u = length c.args.given.now.params.now + c.loop-k.k in
    let below : c.loop-k.k < length c.args.given.now.vars.now = omega (arith, c.len-k-end.ensures.value, c.loop-k-test.true) in
    elim c.if-is_signal.branch [
      | then-is_signal w ↦
          vars_turn g.C.CaseTypes.case_type c.args.given.now c.loop-k.k c.is_signal.result c.if-is_signal.mark c.loop-k.out c.ask_name.new.out _ below c.is_signal.ensures
          (ap (λ m. spec.name_asks g.C.CaseTypes.case_type c.args.given.now m u) w.mark-is ∙ ap (λ b. spec.signal_asks g.C.CaseTypes.case_type c.args.given.now b u) (sym w.if-is_signal.true)) c.in_ok-ask_name.ensures c.loop-k.invariant
      | else-is_signal w ↦
          vars_turn g.C.CaseTypes.case_type c.args.given.now c.loop-k.k c.is_signal.result c.if-is_signal.mark c.loop-k.out c.ask_name.new.out _ below c.is_signal.ensures
          (ap (λ m. spec.name_asks g.C.CaseTypes.case_type c.args.given.now m u) w.mark-is ∙ ap (λ b. spec.signal_asks g.C.CaseTypes.case_type c.args.given.now b u) (sym w.if-is_signal.false)) c.in_ok-ask_name.ensures c.loop-k.invariant
    ]
