use Rattle.std.proofs.Common.{◌∙◌, ap, length}
use Rattle.ls_places.specs.declared.definition.Definition.{Definition}
use Rattle.kahn_plain.proofs.Sweeps.{ended_by, turn_mono}
use Rattle.kahn_plain.proofs.turns.table.Goals as goal

pub returns : goal.returns
returns g c =
    let b = c.args.body.now in
    let d = c.definition-def.ensures in
    record {
      table = ended_by b (turn_mono b c.turns_are_monotone.ensures.turn c.turns_are_monotone.ensures.meaning)
          c.in_ok-rows.rows c.sweeps.new.rows c.sweeps-2.new.rows c.sweeps-3.new.rows c.sweeps-4.new.rows c.len-vars.result c.len-names.result c.len-resets.result
          c.in_ok-sweeps.field-0 c.in_ok-sweeps-2.field-0 c.in_ok-sweeps-3.field-0 c.in_ok-sweeps-4.field-0 c.in_ok-rows.ensures.unknown
          (c.len-vars.ensures.value ∙ ap (λ (d : Definition). length d.places.vars) d) (c.len-names.ensures.value ∙ ap (λ (d : Definition). length d.places.names) d)
          (c.len-resets.ensures.value ∙ ap (λ (d : Definition). length d.places.resets) d)
          c.if-branch.false c.if-branch-2.false c.if-branch-3.false
          c.in_ok-sweeps.ensures c.in_ok-sweeps-2.ensures c.in_ok-sweeps-3.ensures c.in_ok-sweeps-4.ensures;
    }
