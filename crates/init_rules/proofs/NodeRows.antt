-- What each node of the graph reads.
use Rattle.std.specs.Prelude.{◌≡◌, refl, ℕ, zero, suc, ◌+◌, ◌<◌, List, [], ◌∷◌, ◌++◌, map, length, Some}
use Rattle.std.proofs.Common.{ap, sym, ◌∙◌, arith, get_or}
use Rattle.std.proofs.lemmas.List.{get_or_append_left, get_or-append-add, length-map, length-append}
use Rattle.digraph.specs.Graph.{reads}
use Rattle.ls_sig.specs.declared.binder.Note.{Note}
use Rattle.ls_sig.specs.declared.sigs.InitSig.{InitSig}
use Rattle.ls_places.specs.Search.{count_up, nth, whole_at, whole_of}
use Rattle.ls_places.specs.declared.definition.Definition.{Definition}
use Rattle.ls_places.specs.declared.places.Variable.{Variable}
use Rattle.ls_places.specs.declared.places.Whole.{Whole}
use Rattle.init_rules.specs.Nodes.{Counts, counts, total, empty_rows, initial_row, rows, variable_row, whole_row, zero_row}

length_empty : (k : ℕ) → length (empty_rows k) ≡ k
length_empty zero = refl
length_empty (suc k) = ap suc (length_empty k)

empty_at : (k i : ℕ) → get_or (empty_rows k) i [] ≡ []
empty_at zero i = refl
empty_at (suc k) zero = refl
empty_at (suc k) (suc i) = empty_at k i

pub length_up : (m j : ℕ) → length (count_up m j) ≡ m
length_up zero j = refl
length_up (suc m) j = ap suc (length_up m (suc j))

counted : (f : ℕ → List ℕ) (m j k : ℕ) → k < m → get_or (map f (count_up m j)) k [] ≡ f (j + k)
counted f zero j k l = absurd (omega (arith, l))
counted f (suc m) j zero l = ap f (omega arith)
counted f (suc m) j (suc k) l = counted f m (suc j) k (omega (arith, l)) ∙ ap f (omega arith)

pub nth_there : {A : Type 0} (xs : List A) (k : ℕ) → k < length xs → (x : A) × (nth xs k ≡ Some x)
nth_there [] k l = absurd (omega (arith, l))
nth_there (x ∷ xs) zero l = (x, refl)
nth_there (x ∷ xs) (suc k) l = nth_there xs k (omega (arith, l))

mapped : {A : Type 0} (f : A → List ℕ) (xs : List A) (k : ℕ) (x : A) → nth xs k ≡ Some x → get_or (map f xs) k [] ≡ f x
mapped f [] k x e = absurd (cc e)
mapped f (y ∷ ys) zero x e = ap f (the_some y x e)
  where
    the_some : {A : Type 0} (y x : A) → Some y ≡ Some x → y ≡ x
    the_some y x e = cc e
mapped f (y ∷ ys) (suc k) x e = mapped f ys k x e

whole_mapped : (f : Whole Note → List ℕ) (xs : List (Whole Note)) (k : ℕ) → k < length xs → get_or (map f xs) k [] ≡ f (whole_at xs k)
whole_mapped f [] k l = absurd (omega (arith, l))
whole_mapped f (x ∷ xs) zero l = refl
whole_mapped f (x ∷ xs) (suc k) l = whole_mapped f xs k (omega (arith, l))

module _ (d : Definition) (sigs : List InitSig) where
  abbrev n : Counts
  n = counts d

  abbrev g : List (List ℕ)
  g = rows d sigs

  abbrev A : List (List ℕ)
  A = [] ∷ zero_row d sigs ∷ [] ∷ empty_rows n.params

  abbrev B : List (List ℕ)
  B = map (variable_row d sigs) (count_up n.vars 0)

  abbrev C : List (List ℕ)
  C = map (initial_row d sigs) d.places.vars

  abbrev D : List (List ℕ)
  D = map (whole_row d sigs) d.places.exprs

  long_a : length A ≡ 3 + n.params
  long_a = let e = length_empty n.params in omega (arith, e)

  long_b : length B ≡ n.vars
  long_b = length-map (count_up n.vars 0) (variable_row d sigs) ∙ length_up n.vars 0

  long_c : length C ≡ n.vars
  long_c = length-map d.places.vars (initial_row d sigs)

  long_d : length D ≡ n.exprs
  long_d = length-map d.places.exprs (whole_row d sigs)

  pub long : length g ≡ total n
  long = length-append A (B ++ (C ++ D)) ∙ (
      let e = length-append B (C ++ D) in
      let f = length-append C D in
      omega (arith, e, f, long_a, long_b, long_c, long_d)
      )

  pub at_always : reads g 0 ≡ []
  at_always = refl

  pub at_wrong : reads g 1 ≡ zero_row d sigs
  at_wrong = refl

  pub at_nothing : reads g 2 ≡ []
  at_nothing = refl

  three : (k : ℕ) → 3 + k ≡ suc (suc (suc k))
  three k = omega arith

  pub at_param : (k : ℕ) → k < n.params → reads g (3 + k) ≡ []
  at_param k l = get_or_append_left A (B ++ (C ++ D)) [] (3 + k) (omega (arith, l, long_a)) ∙ ap (λ z. get_or A z []) (three k) ∙ empty_at n.params k

  after_a : (k : ℕ) → get_or g (3 + n.params + k) [] ≡ get_or (B ++ (C ++ D)) k []
  after_a k = ap (λ z. get_or g (z + k) []) (sym long_a) ∙ get_or-append-add A (B ++ (C ++ D)) k []

  after_b : (k : ℕ) → get_or g (3 + n.params + n.vars + k) [] ≡ get_or (C ++ D) k []
  after_b k = ap (λ z. get_or g z []) (omega arith) ∙ after_a (n.vars + k) ∙ ap (λ z. get_or (B ++ (C ++ D)) (z + k) []) (sym long_b) ∙ get_or-append-add B (C ++ D) k []

  after_c : (k : ℕ) → get_or g (3 + n.params + n.vars + n.vars + k) [] ≡ get_or D k []
  after_c k = ap (λ z. get_or g z []) (omega arith) ∙ after_b (n.vars + k) ∙ ap (λ z. get_or (C ++ D) (z + k) []) (sym long_c) ∙ get_or-append-add C D k []

  pub at_var : (k : ℕ) → k < n.vars → reads g (3 + n.params + k) ≡ variable_row d sigs k
  at_var k l = after_a k ∙ get_or_append_left B (C ++ D) [] k (omega (arith, l, long_b)) ∙ counted (variable_row d sigs) n.vars 0 k l ∙ ap (variable_row d sigs) (omega arith)

  pub at_start : (k : ℕ) (w : Variable) → nth d.places.vars k ≡ Some w → k < n.vars → reads g (3 + n.params + n.vars + k) ≡ initial_row d sigs w
  at_start k w e l = after_b k ∙ get_or_append_left C D [] k (omega (arith, l, long_c)) ∙ mapped (initial_row d sigs) d.places.vars k w e

  pub at_whole : (k : ℕ) → k < n.exprs → reads g (3 + n.params + n.vars + n.vars + k) ≡ whole_row d sigs (whole_of d k)
  at_whole k l = after_c k ∙ whole_mapped (whole_row d sigs) d.places.exprs k l
