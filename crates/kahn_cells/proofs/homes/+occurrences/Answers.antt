use Rattle.std.specs.Prelude.{nat_eq, ◌++◌}
use Rattle.std.proofs.Common.{◌∙◌, ap, refl, sym}
use Rattle.indexmap.specs.IndexMap.{get}
use Rattle.kahn_cells.specs.Homes as own
use Rattle.kahn_cells.proofs.Arrows.{occurs_arrow, on_ok}
use Rattle.kahn_cells.proofs.Maps.{places_then, places_walk}
use Rattle.kahn_cells.proofs.homes.+occurrences.Goals as goal

pub add_all_occurrences-loop-ck-preserved : goal.add_all_occurrences-loop-ck-preserved
add_all_occurrences-loop-ck-preserved t c =
    places_walk (λ ck w. own.occur ck c.args.p.now w) (λ all w. own.all_occur all c.args.p.now w) (λ ck rest w. refl)
    c.args.all.now c.loop-ck.ck-index c.ck-item.result (get nat_eq c.loop-ck.homes) (get nat_eq c.add_occurrences.new.homes)
    (λ w. own.meet (get nat_eq c.args.homes.now w) (own.all_occur c.args.all.now c.args.p.now w)) c.loop-ck-test.true (sym c.ck-item.is) c.in_ok-add_occurrences.ensures c.loop-ck.invariant

pub add_occurrences-returns-in_ok-add_all_occurrences-in-Arrow : goal.add_occurrences-returns-in_ok-add_all_occurrences-in-Arrow
add_occurrences-returns-in_ok-add_all_occurrences-in-Arrow t c =
    let p = c.args.p.now in
    let old = get nat_eq c.args.homes.now in
    let mid = get nat_eq c.add_all_occurrences.new.homes in
    on_ok c.add_occurrences-in-Arrow.result (λ second w.
    places_then (own.all_occur c.as_slice.result.now p) (own.occur c.get-in-Arrow.result.now p) old mid (get nat_eq c.add_occurrences-in-Arrow.new.homes)
    c.in_ok-add_all_occurrences-in-Arrow.ensures second w
    ∙ ap (λ z. own.meet (old w) (own.all_occur z p w ++ own.occur c.get-in-Arrow.result.now p w)) c.as_slice.ensures.value
    ∙ ap (λ z. own.meet (old w) (own.all_occur c.in-Arrow.all p w ++ own.occur z p w)) c.get-in-Arrow.ensures
    ∙ ap (own.meet (old w)) (sym (occurs_arrow c.in-Arrow.all c.in-Arrow.to p w) ∙ sym (ap (λ z. own.occur z p w) c.in-Arrow.is)))
    c.add_occurrences-in-Arrow.ensures
