use Rattle.std.proofs.Common.{◌≡◌, ◌++◌, drop}
use Rattle.ls_places.specs.Definitions.{note_clocks}
use Rattle.clock_infer.proofs.schemes.clocks_of.Given as goal

abbrev pub invariant-loop-note : goal.invariant-loop-note
invariant-loop-note l = l.done ++ note_clocks (drop l.note-index l.notes) ≡ note_clocks l.notes
