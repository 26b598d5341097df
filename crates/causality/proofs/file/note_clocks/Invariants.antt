use Rattle.std.proofs.Common.{◌≡◌, take}
use Rattle.ls_places.specs.Definitions as definitions
use Rattle.causality.proofs.file.note_clocks.Given as goal

abbrev pub invariant-loop-note : goal.invariant-loop-note
invariant-loop-note l = l.done ≡ definitions.note_clocks (take l.note-index l.notes)
