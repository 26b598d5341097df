use Rattle.std.proofs.Common.{◌≡◌, ◌∙◌, sym, ap, subst, length, map, List}
use Rattle.std.specs.Prelude.{All}
use Rattle.ls_value.specs.declared.leaf.Leaf.{Leaf}
use Rattle.step_code.specs.declared.parts.Slot.{Slot}
use Rattle.step_code.specs.Steps.{first_leaf, first_slots}
use Rattle.std.proofs.lemmas.List.{length-map, length-replicate}
use Rattle.step_runner.specs.Ranges.{IsKnown}
use Rattle.step_runner.proofs.StepLemmas.{first_known}
use Rattle.step_runner.proofs.machine.Machine.new.Goals as goal

pub invariant_of-result : goal.invariant_of-result
invariant_of-result c =
    let made : c.in_ok-slots.slots.items ≡ first_slots c.args.code = c.in_ok-slots.ensures ∙ ap (λ slots. map (λ (s : Slot). first_leaf s.kind) slots) c.as_slice.ensures.value in
    record {
      form = c.in_ok-form.ensures;
      slots = ap length made ∙ length-map c.args.code.slots (λ (s : Slot). first_leaf s.kind);
      row = ap length c.in_ok-row.ensures ∙ length-replicate _ _ ∙ c.len.ensures.value;
      known = subst (λ (slots : List Leaf). All (λ leaf. IsKnown c.args.code.cases leaf) slots) (sym made) (first_known c.args.code);
    }
