use Rattle.std.proofs.Common.{◌∙◌}
use Rattle.kahn_plain.specs.Turns as own
use Rattle.kahn_plain.proofs.Sweeps.{full_renewed, merged_renewed, ok_map, turn_mono}
use Rattle.kahn_plain.proofs.turns.renew.Goals as goal

pub returns-then-is_full : goal.returns-then-is_full
returns-then-is_full g c =
    let b = c.args.body.now in
    full_renewed b (turn_mono b c.turns_are_monotone.ensures.turn c.turns_are_monotone.ensures.meaning) c.rows_may_be_made_one_by_one.ensures.below
    c.args.key c.args.rows.now c.requires.low c.requires.range (c.is_full.ensures c.if-is_full.true)

pub returns : goal.returns
returns g c =
    let b = c.args.body.now in
    ok_map c.merge.result (λ more. own.Merged c.args.key b.lines c.as_slice.result.now c.args.rows.now more c.merge.new.rows)
    (λ more. own.Renewed b (own.Only c.args.key) c.args.rows.now more c.merge.new.rows) c.merge.ensures
    (λ more m. merged_renewed b (turn_mono b c.turns_are_monotone.ensures.turn c.turns_are_monotone.ensures.meaning) c.rows_may_be_made_one_by_one.ensures.below
    c.args.key c.as_slice.result.now c.args.rows.now c.merge.new.rows more c.requires.low c.requires.range (c.as_slice.ensures.value ∙ c.in_ok-cells.ensures) m)
