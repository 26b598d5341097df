use Rattle.case_tables.specs.Cases.{place}
use Rattle.causality.proofs.LetsJudged.{item_loops, item_ranked}
use Rattle.causality.proofs.file.judge_item.Goals as goal

pub returns-in-Causal-clause-ranked : goal.returns-in-Causal-clause-ranked
returns-in-Causal-clause-ranked c =
    item_ranked (place c.args.cases.now) c.args.item.now c.in-Let.line _ _ c.in-Let.params _ c.in-Let.notes c.as_slice.result.now c.in-Let.body _
    c.in-Causal.list c.in-Let.is c.as_slice.ensures.value c.in_ok-list-in-Let.ensures c.in-Causal.is

pub returns-in-Cyclic-clause-looped : goal.returns-in-Cyclic-clause-looped
returns-in-Cyclic-clause-looped c =
    item_loops (place c.args.cases.now) c.args.item.now c.in-Let.line _ _ c.in-Let.params _ c.in-Let.notes c.as_slice.result.now c.in-Let.body _
    c.in-Cyclic.found c.in-Let.is c.as_slice.ensures.value c.in_ok-list-in-Let.ensures c.in-Cyclic.is
