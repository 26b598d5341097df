use Rattle.std.specs.Prelude.{nat_eq, None}
use Rattle.std.proofs.Common.{refl, ◌∙◌, ap, sym}
use Rattle.indexmap.specs.IndexMap.{get}
use Rattle.ls_places.specs.Clocks.{clocks_in}
use Rattle.ls_places.specs.Places.{arms}
use Rattle.ls_places.specs.Search as spec
use Rattle.ls_places.specs.declared.places.Whole.{Whole}
use Rattle.ls_sig.specs.declared.binder.Note.{Note}
use Rattle.kahn_cells.specs.Homes as own
use Rattle.kahn_cells.proofs.Maps.{places_walk}
use Rattle.kahn_cells.proofs.homes.homes.Goals as goal

pub loop-whole-preserved : goal.loop-whole-preserved
loop-whole-preserved c =
    let old = get nat_eq c.loop-whole.done in
    places_walk (λ (w : Whole Note) q. spec.term_places q (arms w.place) (clocks_in w.expr)) (λ all q. spec.places_of q all) (λ (w : Whole Note) rest q. refl)
    c.args.all.now c.loop-whole.whole-index c.whole-item.result old (get nat_eq c.add_places.new.homes) (λ q. own.meet None (spec.places_of q c.args.all.now))
    c.loop-whole-test.true (sym c.whole-item.is)
    (λ q. c.in_ok-add_places.ensures q
    ∙ ap (λ z. own.meet (old q) (spec.term_places q c.as_slice-in-loop-whole-2.result.now z)) (c.as_slice-in-loop-whole.ensures.value ∙ c.in_ok-clocks.ensures)
    ∙ ap (λ z. own.meet (old q) (spec.term_places q z (clocks_in c.whole-item.result.expr))) (c.as_slice-in-loop-whole-2.ensures.value ∙ c.in_ok-p.ensures ∙ ap arms c.as_slice.ensures.value))
    c.loop-whole.invariant
