use Rattle.case_tables.specs.Cases.{place}
use Rattle.init_check.proofs.Items.{item_fails, item_judged}
use Rattle.init_check.proofs.file.judge_item.Goals as goal

pub returns-in-None-clause-fault : goal.returns-in-None-clause-fault
returns-in-None-clause-fault c =
    item_fails (place c.args.cases.now) c.args.sigs.now c.args.item.now c.in-Let.line _ _ c.in-Let.params c.in-Let.marks c.as_slice.result.now c.in-Let.notes c.as_slice-in-Let.result.now c.in-Let.body c.in_ok-judge_let-in-Let.field-0
    c.in-Let.is c.as_slice.ensures.value c.as_slice-in-Let.ensures.value c.in_ok-judge_let-in-Let.ensures c.in-None.is

pub returns-in-Some-clause-judged : goal.returns-in-Some-clause-judged
returns-in-Some-clause-judged c =
    item_judged (place c.args.cases.now) c.args.sigs.now c.args.item.now c.in-Let.line _ _ c.in-Let.params c.in-Let.marks c.as_slice.result.now c.in-Let.notes c.as_slice-in-Let.result.now c.in-Let.body c.in_ok-judge_let-in-Let.field-0
    c.in-Some.sig c.in-Let.is c.as_slice.ensures.value c.as_slice-in-Let.ensures.value c.in_ok-judge_let-in-Let.ensures c.in-Some.is
