use Rattle.std.proofs.Common.{◌≡◌, ◌++◌, drop}
use Rattle.ls_places.specs.Definitions as places
use Rattle.kahn_plain.specs.Turns.{EachNumbered}
use Rattle.kahn_plain.proofs.program.definitions.Given as goal

abbrev pub invariant-loop-item : goal.invariant-loop-item
invariant-loop-item l = record { made : l.done ++ places.definitions (places.case_place l.file) (drop l.item-index l.all) ≡ places.definitions (places.case_place l.file) l.all; numbered : EachNumbered l.done }
