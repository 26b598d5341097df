use Rattle.std.proofs.Common.{◌∙◌, sym}
use Rattle.clock_pairs.proofs.Collecting.{call_told, ok_to, told}
use Rattle.clock_pairs.specs.Walks as walks
use Rattle.clock_pairs.proofs.expressions.+collect.Goals as goal

pub collect_expr-returns : goal.collect_expr-returns
collect_expr-returns g t c =
    ok_to c.collect_form.result c.collect_form.new.state _ _ c.collect_form.ensures
    ((λ i. walks.walked g.C.CasePlaces.place c.args.scene.now c.args.place.now (walks.parts (c.get.ensures i)) (c.in_ok-collect_node.ensures i))
    ∙ sym (told g.C.CasePlaces.place c.args.scene.now c.args.e.now c.args.place.now c.args.state.now))

pub collect_form-returns-in_ok-collect_all-in-Call : goal.collect_form-returns-in_ok-collect_all-in-Call
collect_form-returns-in_ok-collect_all-in-Call g t c =
    ok_to c.collect_every.result c.collect_every.new.state _ _ c.collect_every.ensures
    (call_told g.C.CasePlaces.place c.args.scene.now c.args.form.now c.in-Call.run' c.in-Call.head c.in-Call.args c.as_slice-in-Call.result.now c.in-Call.every c.args.place.now c.args.state.now c.collect_all-in-Call.new.state
    c.in-Call.is c.as_slice-in-Call.ensures.value c.in_ok-collect_all-in-Call.ensures)
