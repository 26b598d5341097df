-- Trees whose notes are made from the old ones, with a state that stays.
use Rattle.std.specs.Prelude.{◌≡◌, refl, List, [], ◌∷◌, map}
use Rattle.std.proofs.Common.{ap}
use Rattle.ls_ast.specs.declared.tree.BodyOf.{BodyOf}
use Rattle.tree_notes.proofs.Applied.{body_put}
use Rattle.tree_notes.specs.Noted.{in_body}
use Rattle.tree_notes.specs.Numbered.{number_body, number_notes}

module _ {S N M : Type 0} (f : S → N → M) where
  pub notes_typed : (ns : List N) (k : S) → (number_notes {M = M} f (λ s n. s) ns k).0 ≡ map (f k) ns
  notes_typed [] k = refl
  notes_typed (n ∷ ns) k = ap (λ z. f k n ∷ z) (notes_typed ns k)

  pub notes_stay : (ns : List N) (k : S) → (number_notes {M = M} f (λ s n. s) ns k).1 ≡ k
  notes_stay [] k = refl
  notes_stay (n ∷ ns) k = notes_stay ns k

  pub body_typed : (b : BodyOf N) (k : S) → (number_body {M = M} f (λ s n. s) b k).0 ≡ in_body N M (f k) b
  body_typed b k = ap (λ g. (g k).0) (body_put S N M f b)
