use Rattle.std.specs.Prelude.{nat_eq}
use Rattle.std.proofs.Common.{refl, sym}
use Rattle.indexmap.specs.IndexMap.{get}
use Rattle.kahn_cells.specs.Homes as own
use Rattle.kahn_cells.proofs.Maps.{places_walk}
use Rattle.kahn_cells.proofs.homes.add_places.Goals as goal

pub loop-ck-preserved : goal.loop-ck-preserved
loop-ck-preserved c =
    places_walk (λ ck w. own.occur ck c.args.p.now w) (λ all w. own.terms_occur all c.args.p.now w) (λ ck rest w. refl)
    c.args.all.now c.loop-ck.ck-index c.ck-item.result (get nat_eq c.loop-ck.homes) (get nat_eq c.add_occurrences.new.homes)
    (λ w. own.meet (get nat_eq c.args.homes.now w) (own.terms_occur c.args.all.now c.args.p.now w)) c.loop-ck-test.true (sym c.ck-item.is) c.in_ok-add_occurrences.ensures c.loop-ck.invariant
