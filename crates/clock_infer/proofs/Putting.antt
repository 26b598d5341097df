-- The walk over notes puts one function at each of them.
use Rattle.std.specs.Prelude.{◌≡◌, refl, List, [], ◌∷◌, map}
use Rattle.std.proofs.Common.{ap}
use Rattle.ls_sig.specs.declared.binder.Note.{Note}
use Rattle.tree_notes.specs.Numbered.{number_notes}
use Rattle.clock_infer.specs.declared.puts.Putting.{Putting}

pub notes_put : (f : Putting → Note → Note) (k : Putting) (ns : List Note) → (number_notes f (λ it n. it) ns k).0 ≡ map (f k) ns
notes_put f k [] = refl
notes_put f k (n ∷ ns) = ap (λ z. f k n ∷ z) (notes_put f k ns)
