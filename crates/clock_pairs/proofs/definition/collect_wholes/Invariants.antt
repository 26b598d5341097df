use Rattle.std.proofs.Common.{◌≡◌, drop}
use Rattle.clock_pairs.specs.Walks as walks
use Rattle.clock_pairs.proofs.definition.collect_wholes.Given as goal

abbrev pub invariant-loop-whole : goal.invariant-loop-whole
invariant-loop-whole g l =
    walks.collected g.C.CasePlaces.place l.scene (walks.all_nodes (drop l.whole-index l.all)) l.state ≡ walks.collected g.C.CasePlaces.place l.scene (walks.all_nodes l.all) l.initial.state
