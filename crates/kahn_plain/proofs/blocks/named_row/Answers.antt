use Rattle.kahn_plain.proofs.Rights.{active_named, clock_named, match_named, present_named, tested_named}
use Rattle.kahn_plain.proofs.Standing.{ok_same}
use Rattle.kahn_plain.proofs.blocks.named_row.Goals as goal

pub returns-in-Clock : goal.returns-in-Clock
returns-in-Clock g c = ok_same c.absent_row.result _ _ (clock_named c.args.body.now c.args.m c.in-Clock.field-0 c.args.name.now c.in-Clock.is) c.absent_row.ensures

pub returns-in-Match : goal.returns-in-Match
returns-in-Match g c = ok_same c.match_row.result _ _
    (match_named c.args.body.now c.args.m c.in-Match.k c.args.name.now c.as_slice.result.now c.in-Match.all c.in-Match.field-2 c.in-Match.is c.as_slice.ensures.value) c.match_row.ensures

pub returns-in-Present : goal.returns-in-Present
returns-in-Present g c = ok_same c.present_row.result _ _
    (present_named c.args.body.now c.args.m c.args.name.now c.as_slice-in-Present.result.now c.in-Present.all c.as_slice-in-Present-2.result.now c.in-Present.p c.in-Present.is
    c.as_slice-in-Present.ensures.value c.as_slice-in-Present-2.ensures.value) c.present_row.ensures

pub returns-in-Active : goal.returns-in-Active
returns-in-Active g c = ok_same c.active_row.result _ _
    (active_named c.args.body.now c.args.m c.args.name.now c.as_slice-in-Active.result.now c.in-Active.states c.as_slice-in-Active-2.result.now c.in-Active.p c.in-Active.is
    c.as_slice-in-Active.ensures.value c.as_slice-in-Active-2.ensures.value) c.active_row.ensures

pub returns-in-Tested : goal.returns-in-Tested
returns-in-Tested g c = ok_same c.tested_row.result _ _
    (tested_named c.args.body.now c.args.m c.saturating_sub-first.result c.args.name.now c.as_slice-in-Tested.result.now c.in-Tested.states c.as_slice-in-Tested-2.result.now c.in-Tested.p
    c.in-Tested.is c.saturating_sub-first.ensures c.as_slice-in-Tested.ensures.value c.as_slice-in-Tested-2.ensures.value) c.tested_row.ensures
