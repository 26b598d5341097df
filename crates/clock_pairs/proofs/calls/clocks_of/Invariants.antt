use Rattle.std.proofs.Common.{◌≡◌, ◌++◌, drop}
use Rattle.clock_pairs.specs.Scene as spec
use Rattle.ls_places.specs.Definitions.{note_clocks}
use Rattle.clock_pairs.proofs.calls.clocks_of.Given as goal

abbrev pub invariant-loop-e : goal.invariant-loop-e
invariant-loop-e l =
    l.done ++ note_clocks (spec.notes_of (drop l.e-index l.args)) ≡ note_clocks (spec.notes_of l.args)
