-- Laws of trees with other notes.
use Rattle.std.specs.Prelude.{◌≡◌, Bool, true}
use Rattle.ls_ast.specs.declared.tree.BodyOf.{BodyOf}
use Rattle.ls_ast.specs.declared.tree.DefOf.{DefOf}
use Rattle.tree_notes.specs.Agreement.{advance, Agree}
use Rattle.tree_notes.specs.Each.{Each}
use Rattle.tree_notes.specs.Noted.{in_body, in_definition}
use Rattle.tree_notes.specs.Numbered.{number_body, number_definition}
use Rattle.tree_notes.specs.Order.{notes_body, notes_definition}

module _ (S N M : Type 0) where
  -- where each note is made from the old one alone, the walk puts that function at each note, and the state stays
  abbrev pub PutsAFunction : Type 0
  PutsAFunction = (f : N → M) (d : DefOf N) (k : S) → number_definition (λ s n. f n) (λ s n. s) d k ≡ (in_definition N M f d, k)

  -- where the state stays, the walk puts one function at each note, which the state tells
  abbrev pub PutsByState : Type 0
  PutsByState = (f : S → N → M) (d : DefOf N) (k : S) → number_definition f (λ s n. s) d k ≡ (in_definition N M (f k) d, k)

  -- what holds of each note that is made holds of all notes of the tree
  abbrev pub MadeOfEach : Type 0
  MadeOfEach = (step : S → N → M) (next : S → N → S) (holds : M → Bool) → ((k : S) (n : N) → holds (step k n) ≡ true)
      → (b : BodyOf N) (k : S) → Each (λ m. holds m ≡ true) (notes_body M (number_body step next b k).0)

module _ (S A N M : Type 0) where
  -- the numbered tree with the note of each number is the annotated tree, and the state is the one after all its notes
  abbrev pub GivesBack : Type 0
  GivesBack = (e : A → N) (step : S → N → M) (next : S → N → S) (pick : M → A) (d : DefOf A) (k : S)
      → Agree S A N M e step next pick k (notes_definition A d)
      → (in_definition M A pick (number_definition step next (in_definition A N e d) k).0 ≡ d)
      × ((number_definition step next (in_definition A N e d) k).1 ≡ advance S A N M e step next pick k (notes_definition A d))

  -- the same of a body
  abbrev pub GivesBodyBack : Type 0
  GivesBodyBack = (e : A → N) (step : S → N → M) (next : S → N → S) (pick : M → A) (b : BodyOf A) (k : S)
      → Agree S A N M e step next pick k (notes_body A b)
      → (in_body M A pick (number_body step next (in_body A N e b) k).0 ≡ b)
      × ((number_body step next (in_body A N e b) k).1 ≡ advance S A N M e step next pick k (notes_body A b))

-- other notes twice are the other notes of the other notes
abbrev pub PutTwice : (N M K : Type 0) → Type 0
PutTwice N M K = (f : N → M) (g : M → K) (b : BodyOf N) → in_body M K g (in_body N M f b) ≡ in_body N K (λ n. g (f n)) b

-- a tree with its own notes is the tree
abbrev pub PutSame : (N : Type 0) → Type 0
PutSame N = (b : BodyOf N) → in_body N N (λ n. n) b ≡ b
