use Rattle.std.proofs.Common.{◌≡◌, ◌++◌, drop}
use Rattle.type_rules.specs.Files.{note_types}
use Rattle.type_schemes.proofs.signatures.types_of.Given as goal

abbrev pub invariant-loop-note : goal.invariant-loop-note
invariant-loop-note l = l.done ++ note_types (drop l.note-index l.notes) ≡ note_types l.notes
