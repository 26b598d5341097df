use Rattle.std.proofs.Common.{◌∙◌, ◌+◌, ◌++◌, ap, append_assoc, subst, sym, take}
use Rattle.ls_places.specs.Places.{option_list}
use Rattle.case_tables.specs.Cases.{place}
use Rattle.init_rules.specs.Files.{Judged, lets}
use Rattle.init_check.proofs.Items.{fault_at, next_item}
use Rattle.init_check.proofs.file.judge_all.Goals as goal

pub returns-in-Err-clause-fault : goal.returns-in-Err-clause-fault
returns-in-Err-clause-fault c =
    fault_at (place c.args.cases.now) c.in-Err.fault c.args.before.now c.args.items.now c.loop-item.item-index c.item-item.result c.as_slice.result.now c.loop-item.done c.loop-item-test.true (sym c.item-item.is)
    (c.as_slice.ensures.value ∙ c.loop-item.invariant.all) c.in-Err.ensures.fault c.loop-item.invariant.so_far

pub loop-item-preserved : goal.loop-item-preserved
loop-item-preserved c =
    let more = option_list c.in-Ok.sig in
    let done = c.in_ok-add_signature-in-Ok.ensures.done in
    record {
      all = c.in_ok-add_signature-in-Ok.ensures.sigs ∙ ap (λ z. z ++ more) c.loop-item.invariant.all ∙ append_assoc c.args.before.now c.loop-item.done more ∙ ap (λ z. c.args.before.now ++ z) (sym done);
      so_far = subst (Judged c.args.before.now (lets (place c.args.cases.now) (take (c.loop-item.item-index + 1) c.args.items.now))) (sym done)
          (next_item (place c.args.cases.now) c.args.before.now c.args.items.now c.loop-item.item-index c.item-item.result c.as_slice.result.now c.loop-item.done c.in-Ok.sig c.loop-item-test.true (sym c.item-item.is)
          (c.as_slice.ensures.value ∙ c.loop-item.invariant.all) c.in-Ok.ensures.judged c.loop-item.invariant.so_far);
    }
