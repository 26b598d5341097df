-- Items in lists.
use Rattle.std.specs.Prelude.{◌≡◌, refl, ◌⊎◌, List, ◌∷◌}
use Rattle.std.proofs.Common.{inl, inr}
use Rattle.digraph.specs.Graph.{In, first, later}

pub in_cons : {A : Type 0} (x z : A) (zs : List A) → In x (z ∷ zs) → (z ≡ x) ⊎ In x zs
in_cons x _ _ (first zs) = inl refl
in_cons x _ _ (later z zs h) = inr h
