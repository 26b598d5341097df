use Rattle.std.specs.Prelude.{nat_eq}
use Rattle.std.proofs.Common.{ap, ◌+◌}
use Rattle.indexmap.specs.IndexMap.{get}
use Rattle.ls_places.specs.Clocks.{or_else}
use Rattle.kahn_cells.specs.Constructors as own
use Rattle.kahn_cells.proofs.Clocking.{cases_next}
use Rattle.kahn_cells.proofs.Lists.{get_any}
use Rattle.kahn_cells.proofs.constructors.add_cases.Goals as goal

pub loop-name-preserved : goal.loop-name-preserved
loop-name-preserved c = record {
  counted = ap (λ z. z + 1) c.loop-name.invariant.counted;
  so_far = cases_next c.args.all.now c.loop-name.name-index c.loop-name.k _ (get nat_eq c.loop-name.places) (get nat_eq c.add_place.new.places)
      (λ x. or_else (get nat_eq c.args.places.now x) (own.places_in c.args.all.now x)) c.loop-name-test.true (get_any c.args.all.now c.loop-name.name-index _ c.loop-name-test.true)
      c.in_ok-add_place.ensures c.loop-name.invariant.so_far;
}
