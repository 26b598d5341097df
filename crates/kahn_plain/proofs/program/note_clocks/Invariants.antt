use Rattle.std.proofs.Common.{◌≡◌, take}
use Rattle.ls_places.specs.Definitions.{note_clocks}
use Rattle.kahn_plain.proofs.program.note_clocks.Given as goal

abbrev pub invariant-loop-note : goal.invariant-loop-note
invariant-loop-note l = l.done ≡ note_clocks (take l.note-index l.notes)
