-- What the code's structures say: references taken away.
use Rattle.std.specs.Prelude.{List, map}
use Rattle.ls_scope.specs.declared.contents.Reading as rust
use Rattle.ls_scope.specs.declared.contents.Reading.TheVariants as reading
use Rattle.ls_scope.specs.declared.contents.Contents as found
use Rattle.scope_rules.specs.Places.{Reading, reads, tests, Contents}

module _ {N : Type 0} where
  abbrev pub told : rust.Reading N → Reading N
  told (reading.Reads e s p) = reads e.now s p
  told (reading.Tests x p) = tests x p

  abbrev pub built : found.Contents N → Contents N
  built f = record { sites = f.sites; starts = f.starts; readings = map told f.readings; arms = f.arms; automata = f.automata; next = f.next }
