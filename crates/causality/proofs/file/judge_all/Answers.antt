use Rattle.std.proofs.Common.{◌+◌, subst, sym, take}
use Rattle.case_tables.specs.Cases.{place}
use Rattle.causality_rules.specs.Files.{AllRanked, lets}
use Rattle.causality.proofs.LetsJudged.{fault_at, next_item}
use Rattle.causality.proofs.file.judge_all.Goals as goal

pub returns-in-Err-clause-looped : goal.returns-in-Err-clause-looped
returns-in-Err-clause-looped c =
    fault_at (place c.args.cases.now) c.in-Err.fault c.args.items.now c.loop-item.item-index c.item-item.result c.loop-item.done c.loop-item-test.true (sym c.item-item.is)
    c.in-Err.ensures.looped c.loop-item.invariant

pub loop-item-preserved : goal.loop-item-preserved
loop-item-preserved c =
    subst (AllRanked (lets (place c.args.cases.now) (take (c.loop-item.item-index + 1) c.args.items.now))) (sym c.in_ok-add_numbers-in-Ok.ensures)
    (next_item (place c.args.cases.now) c.args.items.now c.loop-item.item-index c.item-item.result c.loop-item.done c.in-Ok.list c.loop-item-test.true (sym c.item-item.is)
    c.in-Ok.ensures.ranked c.loop-item.invariant)
