use Rattle.std.proofs.Common.{◌<◌, ◌∙◌, ◌++◌, ap, sym, subst, length, slice_index_or}
use Rattle.std.proofs.lemmas.List.{append-nil, drop_all}
use Rattle.ls_places.specs.Search.{nth}
use Rattle.clock_conditions.specs.Bounds as spec
use Rattle.clock_conditions.proofs.Ranking.{row_below, rows_long}
use Rattle.clock_conditions.proofs.cycles.graph.Goals as goal

pub add-requires : goal.add-requires
add-requires c = λ k d l.
    let here = c.as_slice.ensures.value ∙ c.in_ok-row.ensures ∙ (λ j. spec.row (c.as_slice-all.ensures.value j) c.loop-i.i (c.nth.ensures j)) in
    let many = c.loop-i.invariant.0 ∙ ap length c.as_slice-all.ensures.value in
    subst (λ z. slice_index_or z k d < c.loop-i.rows.0) (sym here)
    (subst (λ n. slice_index_or (spec.row c.args.marks.now c.loop-i.i (nth c.args.notes.now c.loop-i.i)) k d < n) (sym many)
    (row_below c.args.marks.now c.args.notes.now c.requires c.loop-i.i k d (subst (λ z. k < length z) here l)))

pub finish-requires : goal.finish-requires
finish-requires c =
    ap length
    (sym (append-nil c.loop-i.rows.1)
    ∙ ap (λ l. c.loop-i.rows.1 ++ spec.rows c.as_slice-all.result.now c.args.notes.now l c.loop-i.i) (sym (drop_all c.loop-i.i c.as_slice-all.result.now c.loop-i-test.false))
    ∙ c.loop-i.invariant.1)
    ∙ rows_long c.as_slice-all.result.now c.args.notes.now c.as_slice-all.result.now 0
    ∙ sym c.loop-i.invariant.0
