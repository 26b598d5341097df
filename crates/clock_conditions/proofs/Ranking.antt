-- An order of the clock names of parameters ranks them, and a cycle excludes that.
use Rattle.std.specs.Prelude.{◌≡◌, refl, ℕ, zero, suc, ◌<◌, ◌+◌, Bool, true, false, All, List, [], ◌∷◌, length, Option, Some, None, if◌then◌else◌, nat_le}
use Rattle.std.proofs.Common.{ap, sym, ◌∙◌, subst, arith}
use Rattle.std.proofs.lemmas.Bool.{and_parts}
use Rattle.ls_ast.specs.declared.tree.Mark.{Mark}
use Rattle.ls_terms.specs.Clocks.{size}
use Rattle.ls_sig.specs.declared.binder.Note.{Note}
use Rattle.ls_places.specs.Search.{nth}
use Rattle.digraph.specs.Graph.{In, first, later, reads}
use Rattle.digraph.specs.Numbering.{Rising}
use Rattle.tree_notes.specs.Each.{Each}
use Rattle.clock_rules.specs.Terms.{limit, names_in}
use Rattle.clock_rules.proofs.Seen.{to_library}
use Rattle.clock_conditions.specs.Bounds.{is_clock_parameter, param_met, public, row, rows}
use Rattle.clock_conditions.specs.Every.{every}
use Rattle.clock_conditions.specs.Met.{Falls, IsRanked}

none_in : {A : Type 0} {x : A} → In x [] → ⊥
none_in h = elim h [ ]

in_each : {A : Type 0} (P : A → Type 0) (y : A) (xs : List A) → Each P xs → In y xs → P y
in_each P y _ h (first xs) = h.0
in_each P y _ h (later x xs i) = in_each P y xs h.1 i

each_in : {A : Type 0} (P : A → Type 0) (xs : List A) → ((y : A) → In y xs → P y) → Each P xs
each_in P [] h = tt
each_in P (x ∷ xs) h = (h x (first xs), each_in P xs (λ y i. h y (later x xs i)))

clock_below : (ms : List Mark) (i : ℕ) → is_clock_parameter ms i ≡ true → i < length ms
clock_below [] i e = absurd (cc)
clock_below (m ∷ ms) zero e = omega arith
clock_below (m ∷ ms) (suc i) e = let h = clock_below ms i e in omega (arith, h)

module _ (marks : List Mark) (notes : List Note) where
  abbrev at : ℕ → List ℕ
  at i = row marks i (nth notes i)

  in_row : (ms : List Mark) (i x y : ℕ) → In y (reads (rows marks notes ms i) x) → In y (at (i + x))
  in_row [] i x y h = absurd (none_in h)
  in_row (m ∷ ms) i zero y h = let e : i ≡ i + 0 = omega arith in subst (λ k. In y (at k)) e h
  in_row (m ∷ ms) i (suc x) y h = let e : suc i + x ≡ i + suc x = omega arith in subst (λ k. In y (at k)) e (in_row ms (suc i) x y h)

  row_in : (ms : List Mark) (i x y : ℕ) → x < length ms → In y (at (i + x)) → In y (reads (rows marks notes ms i) x)
  row_in [] i x y l h = absurd (omega (arith, l))
  row_in (m ∷ ms) i zero y l h = let e : i + 0 ≡ i = omega arith in subst (λ k. In y (at k)) e h
  row_in (m ∷ ms) i (suc x) y l h =
      let e : i + suc x ≡ suc i + x = omega arith in
      let k : x < length ms = omega (arith, l) in
      row_in ms (suc i) x y k (subst (λ z. In y (at z)) e h)

  abbrev graph : List (List ℕ)
  graph = rows marks notes marks 0

  named : (rank : ℕ → ℕ) → Falls marks notes rank → (x y : ℕ) (o : Option Note) → nth notes x ≡ o → In y (row marks x o) → rank y < rank x
  named rank h x y None e i = absurd (none_in i)
  named rank h x y (Some n) e i = go (is_clock_parameter marks x) refl i
    where
      go : (c : Bool) → is_clock_parameter marks x ≡ c → In y (if c then names_in n.ck else []) → rank y < rank x
      go true t j = in_each (λ m. rank m < rank x) y (names_in n.ck) (h x n e t) j
      go false t j = absurd (none_in j)

  in_at : (x y : ℕ) → In y (reads graph x) → In y (at x)
  in_at x y h = let e : 0 + x ≡ x = omega arith in subst (λ k. In y (at k)) e (in_row marks 0 x y h)

  at_in : (x y : ℕ) → x < length marks → In y (at x) → In y (reads graph x)
  at_in x y l h = let e : x ≡ 0 + x = omega arith in row_in marks 0 x y l (subst (λ k. In y (at k)) e h)

  pub rising : (r : IsRanked marks notes) → Rising (reads graph) r.rank
  rising r x y i = named r.rank r.falls x y (nth notes x) refl (in_at x y i)

  pub ranked : (rank : ℕ → ℕ) → Rising (reads graph) rank → IsRanked marks notes
  ranked rank h = record {
    rank = rank;
    falls = λ i n e c. each_in (λ m. rank m < rank i) (names_in n.ck)
        (λ m j. h i m (at_in i m (clock_below marks i c)
        (subst (λ o. In m (row marks i o)) (sym e) (subst (λ z. In m (if z then names_in n.ck else [])) (sym c) j))));
  }

  -- what is mentioned are parameters
  all_below : (ms : List ℕ) → every (is_clock_parameter marks) ms ≡ true → Each (λ m. m < length marks) ms
  all_below [] e = tt
  all_below (m ∷ ms) e = let q = and_parts (is_clock_parameter marks m) (every (is_clock_parameter marks) ms) e in (clock_below marks m q.0, all_below ms q.1)

  found_met : (ns : List Note) → every (param_met marks) ns ≡ true → (i : ℕ) (n : Note) → nth ns i ≡ Some n → every (is_clock_parameter marks) (names_in n.ck) ≡ true
  found_met [] e i n p = absurd (cc)
  found_met (m ∷ ns) e zero n p =
      let q = and_parts (param_met marks m) (every (param_met marks) ns) e in
      let r = and_parts (nat_le (size m.ck) limit) (public marks m.ck) q.0 in
      let same : m ≡ n = cc in
      ap (λ (z : Note). every (is_clock_parameter marks) (names_in z.ck)) (sym same) ∙ r.1
  found_met (m ∷ ns) e (suc i) n p = found_met ns (and_parts (param_met marks m) (every (param_met marks) ns) e).1 i n p

  pub row_below : every (param_met marks) notes ≡ true → (i : ℕ) → All (λ m. m < length marks) (at i)
  row_below e i = go (nth notes i) refl
    where
      some : (n : Note) (c : Bool) → every (is_clock_parameter marks) (names_in n.ck) ≡ true → Each (λ m. m < length marks) (if c then names_in n.ck else [])
      some n true q = all_below (names_in n.ck) q
      some n false q = tt

      go : (o : Option Note) → nth notes i ≡ o → All (λ m. m < length marks) (row marks i o)
      go None p = to_library (λ m. m < length marks) [] tt
      go (Some n) p = to_library (λ m. m < length marks) (row marks i (Some n)) (some n (is_clock_parameter marks i) (found_met notes e i n p))

  pub rows_long : (ms : List Mark) (i : ℕ) → length (rows marks notes ms i) ≡ length ms
  rows_long [] i = refl
  rows_long (m ∷ ms) i = ap suc (rows_long ms (suc i))
