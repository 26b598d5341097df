use Rattle.std.proofs.Common.{◌≡◌, arith, subst}
use Rattle.kahn_plain.specs.Turns as own
use Rattle.kahn_plain.proofs.Sweeps.{kind_more, none_renewed, turn_mono}
use Rattle.kahn_plain.proofs.turns.renew_kind.Goals as goal

pub loop-k-init : goal.loop-k-init
loop-k-init g c =
    let b = c.args.body.now in
    none_renewed b (turn_mono b c.turns_are_monotone.ensures.turn c.turns_are_monotone.ensures.meaning) c.args.kind c.args.from c.args.rows.now c.requires.low

pub renew-requires-clause-low : goal.renew-requires-clause-low
renew-requires-clause-low g c = c.loop-k.invariant.low

pub loop-k-preserved : goal.loop-k-preserved
loop-k-preserved g c =
    let b = c.args.body.now in
    kind_more b (turn_mono b c.turns_are_monotone.ensures.turn c.turns_are_monotone.ensures.meaning) c.args.kind c.args.from c.loop-k.k c.args.rows.now c.loop-k.rows c.renew.new.rows
    c.loop-k.more c.in_ok-put.put c.or-more.result c.loop-k.invariant
    (subst (λ z. own.Renewed b (own.Only z) c.loop-k.rows c.in_ok-put.put c.renew.new.rows) c.key_of.ensures c.in_ok-put.ensures) c.or-more.ensures

pub returns : goal.returns
returns g c =
    let ended : c.loop-k.k ≡ c.args.count = omega (arith, c.loop-k-test.false, c.loop-k.auto.k-end) in
    subst (λ z. own.Renewed c.args.body.now (own.OfKind c.args.kind c.args.from z) c.args.rows.now c.loop-k.more c.loop-k.rows) ended c.loop-k.invariant
