-- States that give the notes of a tree back.
use Rattle.std.specs.Prelude.{◌≡◌, List, [], ◌∷◌}

-- A are the notes of an annotated tree, N those of the tree that is numbered, M those that are made; `e` is the note of N
-- that a note of A stands on, and `pick` the note of A that is put for a note of M
module _ (S A N M : Type 0) (e : A → N) (step : S → N → M) (next : S → N → S) (pick : M → A) where
  -- the state after these notes
  abbrev pub advance : S → List A → S
  advance k [] = k
  advance k (a ∷ as') = advance (next k (e a)) as'

  -- from this state on each of these notes is put for the one that is made in its place
  abbrev pub Agree : S → List A → Type 0
  Agree k [] = Unit {0}
  Agree k (a ∷ as') = (pick (step k (e a)) ≡ a) × Agree (next k (e a)) as'
