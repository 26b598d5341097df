use Rattle.std.proofs.Common.{ap, sym, ◌∙◌, ◌+◌}
use Rattle.place_tables.specs.Groups as own
use Rattle.place_tables.proofs.Grouping.{groups_next}
use Rattle.place_tables.proofs.groups.grouped.Goals as goal

pub loop-of_item-preserved : goal.loop-of_item-preserved
loop-of_item-preserved c =
    let old = own.group c.loop-of_item.done in
    record {
      counted = ap (λ z. z + 1) c.loop-of_item.invariant.counted;
      so_far = groups_next c.args.keys.now c.loop-of_item.of_item-index c.of_item-item.result old (own.group c.add_keys.new.groups) c.loop-of_item-test.true (sym c.of_item-item.is)
          (λ x. c.in_ok-add_keys.ensures x ∙ ap (λ z. own.keyed z x c.as_slice.result.now (old x)) c.loop-of_item.invariant.counted
          ∙ ap (λ z. own.keyed c.loop-of_item.of_item-index x z (old x)) c.as_slice.ensures.value) c.loop-of_item.invariant.so_far;
    }
