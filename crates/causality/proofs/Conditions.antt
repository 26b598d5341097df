-- Where the rows of a cycle are all conditions of resets, some variable stands inside one of them and waits for itself.
use Rattle.std.specs.Prelude.{◌≡◌, refl, ℕ, zero, suc, ◌+◌, ◌<◌, ◌⊎◌, ◌||◌, nat_lt, Bool, true, false, List, [], ◌∷◌, length, slice_set, Option, Some, None, if◌then◌else◌}
use Rattle.std.proofs.Common.{ap, sym, subst, ◌∙◌, arith, inl, inr}
use Rattle.std.proofs.Math.ListN.{length-set}
use Rattle.ls_places.specs.Places.{Place}
use Rattle.ls_places.specs.Search.{nth}
use Rattle.ls_places.specs.declared.definition.Definition.{Definition}
use Rattle.ls_places.specs.declared.definition.Key.{Key}
use Rattle.ls_places.specs.declared.definition.Key.TheVariants as key
use Rattle.ls_places.specs.declared.places.Frame.TheVariants as frame
use Rattle.ls_places.specs.declared.places.Variable.{Variable}
use Rattle.digraph.specs.Graph.{In, first, later}
use Rattle.digraph.specs.Marks.{marked}
use Rattle.digraph.specs.Numbering.{Cycle, Links, for_itself, here}
use Rattle.digraph.proofs.Marks.{none_in, in_cons, set_keeps, set_only, set_self}
use Rattle.causality_rules.specs.Reads.{condition_rows, reads, reset_rows}
use Rattle.causality_rules.specs.Items.{Cyclic, is_condition}
use Rattle.causality_rules.specs.Laws.{ResetsNested}
use Rattle.causality_rules.proofs.Cycles.{Found, edge, var_reads}
use Rattle.causality.specs.Cycles.{blank, first_marked, holds_marked, mark, marks_of, marks_with, others}
use Rattle.causality.proofs.Waiting.{all_between, turned, within_itself}

-- ---- marks

mark_long : (m : List Bool) (r : ℕ) (t : Bool) → length (if t then slice_set m r true else m) ≡ length m
mark_long m r true = length-set m r true
mark_long m r false = refl

is_less : (k n : ℕ) → nat_lt k n ≡ true → k < n
is_less k n e = grind (arith, e)

mark_keeps : (m : List Bool) (r q : ℕ) (t : Bool) → nat_lt r (length m) ≡ t → marked m q ≡ true → marked (if t then slice_set m r true else m) q ≡ true
mark_keeps m r q true e h = set_keeps m r q (is_less r (length m) e) h
mark_keeps m r q false e h = h

mark_only : (m : List Bool) (r q : ℕ) (t : Bool) → marked (if t then slice_set m r true else m) q ≡ true → (marked m q ≡ true) ⊎ (q ≡ r)
mark_only m r q true h = set_only m r q h
mark_only m r q false h = inl h

mark_self : (m : List Bool) (r : ℕ) (t : Bool) → nat_lt r (length m) ≡ t → r < length m → marked (if t then slice_set m r true else m) r ≡ true
mark_self m r true e l = set_self m r l
mark_self m r false e l = absurd (wrong r (length m) e l)
  where
    wrong : (k n : ℕ) → nat_lt k n ≡ false → k < n → ⊥
    wrong k n e l = grind (arith, e, l)

kept : (m : List Bool) (ks : List Key) (q : ℕ) → marked m q ≡ true → marked (marks_with m ks) q ≡ true
kept m [] q h = h
kept m (key.Var x ∷ ks) q h = kept m ks q h
kept m (key.Start x ∷ ks) q h = kept m ks q h
kept m (key.Name x ∷ ks) q h = kept m ks q h
kept m (key.Reset r ∷ ks) q h = kept (mark m r) ks q (mark_keeps m r q (nat_lt r (length m)) refl h)

abbrev of_key : Key → ℕ
of_key (key.Reset r) = r
of_key _ = 0

pub is_marked : (m : List Bool) (ks : List Key) (q : ℕ) → In (key.Reset q) ks → q < length m → marked (marks_with m ks) q ≡ true
is_marked m [] q h l = absurd (none_in h)
is_marked m (key.Var x ∷ ks) q h l = elim (in_cons (key.Reset q) (key.Var x) ks h) [ inl e ↦ absurd (cc e) | inr i ↦ is_marked m ks q i l ]
is_marked m (key.Start x ∷ ks) q h l = elim (in_cons (key.Reset q) (key.Start x) ks h) [ inl e ↦ absurd (cc e) | inr i ↦ is_marked m ks q i l ]
is_marked m (key.Name x ∷ ks) q h l = elim (in_cons (key.Reset q) (key.Name x) ks h) [ inl e ↦ absurd (cc e) | inr i ↦ is_marked m ks q i l ]
is_marked m (key.Reset r ∷ ks) q h l = elim (in_cons (key.Reset q) (key.Reset r) ks h) [
  | inl e ↦ kept (mark m r) ks q (subst (λ z. marked (mark m r) z ≡ true) (sym (ap of_key e)) (mark_self m r (nat_lt r (length m)) refl (subst (λ z. z < length m) (ap of_key e) l)))
  | inr i ↦ is_marked (mark m r) ks q i (subst (λ z. q < z) (sym (mark_long m r (nat_lt r (length m)))) l)
]

pub marks_only : (m : List Bool) (ks : List Key) (q : ℕ) → marked (marks_with m ks) q ≡ true → (marked m q ≡ true) ⊎ In (key.Reset q) ks
marks_only m [] q h = inl h
marks_only m (key.Var x ∷ ks) q h = elim (marks_only m ks q h) [ inl a ↦ inl a | inr b ↦ inr (later (key.Var x) ks b) ]
marks_only m (key.Start x ∷ ks) q h = elim (marks_only m ks q h) [ inl a ↦ inl a | inr b ↦ inr (later (key.Start x) ks b) ]
marks_only m (key.Name x ∷ ks) q h = elim (marks_only m ks q h) [ inl a ↦ inl a | inr b ↦ inr (later (key.Name x) ks b) ]
marks_only m (key.Reset r ∷ ks) q h = elim (marks_only (mark m r) ks q h) [
  | inl a ↦ elim (mark_only m r q (nat_lt r (length m)) a) [ inl c ↦ inl c | inr e ↦ inr (subst (λ z. In (key.Reset z) (key.Reset r ∷ ks)) (sym e) (first ks)) ]
  | inr b ↦ inr (later (key.Reset r) ks b)
]

-- ---- variables inside marked resets

or_cases : (a b : Bool) → (a || b) ≡ true → (a ≡ true) ⊎ (b ≡ true)
or_cases true b e = inl refl
or_cases false b e = inr e

or_left : (a b : Bool) → a ≡ true → (a || b) ≡ true
or_left a b e = ap (λ z. z || b) e

or_right : (a b : Bool) → b ≡ true → (a || b) ≡ true
or_right true b e = refl
or_right false b e = e

pub holds : (m : List Bool) (p : Place) (q : ℕ) → In (key.Reset q) (reset_rows p) → marked m q ≡ true → holds_marked m p ≡ true
holds m [] q h e = absurd (none_in h)
holds m (frame.Reset r ∷ p) q h e = elim (in_cons (key.Reset q) (key.Reset r) (reset_rows p) h) [
  | inl s ↦ or_left (marked m r) (holds_marked m p) (subst (λ z. marked m z ≡ true) (ap of_key s) e)
  | inr i ↦ or_right (marked m r) (holds_marked m p) (holds m p q i e)
]
holds m (frame.Arm n j ∷ p) q h e = holds m p q h e

held : (m : List Bool) (p : Place) → holds_marked m p ≡ true → (q : ℕ) × In (key.Reset q) (reset_rows p) × (marked m q ≡ true)
held m [] h = absurd (cc h)
held m (frame.Reset r ∷ p) h = elim (or_cases (marked m r) (holds_marked m p) h) [
  | inl e ↦ (r, first (reset_rows p), e)
  | inr i ↦ let s = held m p i in (s.0, later (key.Reset r) (reset_rows p) s.1, s.2)
]
held m (frame.Arm n j ∷ p) h = held m p h

-- the first of the variables that stand inside marked resets
abbrev FirstAt : List Bool → List Variable → ℕ → ℕ → Type 0
FirstAt m ws k x = (i : ℕ) × (w : Variable) × (x ≡ k + i) × (nth ws i ≡ Some w) × (holds_marked m w.place ≡ true)

first_at : (m : List Bool) (ws : List Variable) (k x : ℕ) → first_marked m ws k ≡ Some x → FirstAt m ws k x
first_at m [] k x e = absurd (cc e)
first_at m (w ∷ ws) k x e = by_mark (holds_marked m w.place) refl e (first_at m ws (suc k) x)
  where
    number : Option ℕ → ℕ
    number None = 0
    number (Some v) = v

    same : (k x : ℕ) → Some k ≡ Some x → x ≡ k + 0
    same k x s = let t : k ≡ x = ap number s in omega (arith, t)

    on : (k i x : ℕ) → x ≡ suc k + i → x ≡ k + suc i
    on k i x s = omega (arith, s)

    by_mark : (t : Bool) → holds_marked m w.place ≡ t → (if t then Some k else first_marked m ws (suc k)) ≡ Some x → (first_marked m ws (suc k) ≡ Some x → FirstAt m ws (suc k) x)
        → FirstAt m (w ∷ ws) k x
    by_mark true h s f = (zero, w, same k x s, refl, h)
    by_mark false h s f = let r = f s in (suc r.0, r.1, on k r.0 x r.2, r.3, r.4)

none_at : (m : List Bool) (ws : List Variable) (k : ℕ) → first_marked m ws k ≡ None → (i : ℕ) (w : Variable) → nth ws i ≡ Some w → holds_marked m w.place ≡ true → ⊥
none_at m [] k e i w s h = absurd (cc s)
none_at m (v ∷ ws) k e i w s h = by_mark (holds_marked m v.place) refl e (none_at m ws (suc k)) i s
  where
    the_some : (a b : Variable) → Some a ≡ Some b → a ≡ b
    the_some a b e = cc e

    by_mark : (t : Bool) → holds_marked m v.place ≡ t → (if t then Some k else first_marked m ws (suc k)) ≡ None
        → (first_marked m ws (suc k) ≡ None → (i : ℕ) (w : Variable) → nth ws i ≡ Some w → holds_marked m w.place ≡ true → ⊥)
        → (i : ℕ) → nth (v ∷ ws) i ≡ Some w → ⊥
    by_mark true a b f i s = absurd (cc b)
    by_mark false a b f zero s = absurd (cc (sym a ∙ ap (λ (z : Variable). holds_marked m z.place) (the_some v w s) ∙ h))
    by_mark false a b f (suc i) s = f b i w s h

none_marked : (n : ℕ) (m : List Bool) → m ≡ blank n → (q : ℕ) → marked m q ≡ true → ⊥
none_marked n m e q h = wrong n q (subst (λ z. marked z q ≡ true) e h)
  where
    wrong : (n q : ℕ) → marked (blank n) q ≡ true → ⊥
    wrong zero q h = absurd (cc h)
    wrong (suc n) zero h = absurd (cc h)
    wrong (suc n) (suc q) h = wrong n q h

blank_long : (n : ℕ) → length (blank n) ≡ n
blank_long zero = refl
blank_long (suc n) = ap suc (blank_long n)

-- ---- conditions alone

module _ (d : Definition) (nested : ResetsNested d) where
  abbrev Inside : ℕ → List Key → ℕ → Type 0
  Inside q ms z = Found d q × (In (key.Reset q) ms ⊎ (q ≡ z))

  -- a way of conditions goes to an earlier one, or has one that some variable stands inside
  falls : (r : ℕ) (ms : List Key) (z : ℕ) → Links (reads d) (key.Reset r) ms (key.Reset z) → ((k : Key) → In k ms → is_condition k ≡ true) → (z < r) ⊎ ((q : ℕ) × Inside q ms z)
  falls r [] z l all = elim (edge d nested r z l) [ inl b ↦ inl b | inr f ↦ inr (z, (f, inr refl)) ]
  falls r (key.Var x ∷ ms) z l all = absurd (cc (all (key.Var x) (first ms)))
  falls r (key.Start x ∷ ms) z l all = absurd (cc (all (key.Start x) (first ms)))
  falls r (key.Name x ∷ ms) z l all = absurd (cc (all (key.Name x) (first ms)))
  falls r (key.Reset m ∷ ms) z l all = elim (edge d nested r m l.0) [
    | inr f ↦ inr (m, (f, inl (first ms)))
    | inl b ↦ elim (falls m ms z l.1 (λ k i. all k (later (key.Reset m) ms i))) [
      | inl c ↦ inl (omega (arith, b, c))
      | inr s ↦ inr (s.0, (s.1.0, elim s.1.1 [ inl i ↦ inl (later (key.Reset m) ms i) | inr e ↦ inr e ]))
    ]
  ]

  abbrev Held : List Key → Type 0
  Held c = (q : ℕ) × Found d q × In (key.Reset q) c

  some_held : (x : Key) (xs : List Key) → Links (reads d) x xs x → ((k : Key) → In k (x ∷ xs) → is_condition k ≡ true) → Held (x ∷ xs)
  some_held (key.Var y) xs l all = absurd (cc (all (key.Var y) (first xs)))
  some_held (key.Start y) xs l all = absurd (cc (all (key.Start y) (first xs)))
  some_held (key.Name y) xs l all = absurd (cc (all (key.Name y) (first xs)))
  some_held (key.Reset r) xs l all = elim (falls r xs r l (λ k i. all k (later (key.Reset r) xs i))) [
    | inl b ↦ absurd (omega (arith, b))
    | inr s ↦ (s.0, s.1.0, elim s.1.1 [ inl i ↦ later (key.Reset r) xs i | inr e ↦ subst (λ z. In (key.Reset z) (key.Reset r ∷ xs)) (sym e) (first xs) ])
  ]

  held_in : (c : List Key) → Cycle (reads d) c → others is_condition c ≡ [] → Held c
  held_in [] l h = absurd l
  held_in (x ∷ xs) l h = some_held x xs l (all_between is_condition (reads d) (x ∷ xs) h)

  -- a condition that reads is there
  there : (q : ℕ) (o : Option ℕ) → nth d.places.resets q ≡ o → (y : Key) → In y (condition_rows d o) → q < length d.places.resets
  there q None e y h = absurd (none_in h)
  there q (Some k) e y h = below d.places.resets q k e
    where
      below : (xs : List ℕ) (q k : ℕ) → nth xs q ≡ Some k → q < length xs
      below [] q k e = absurd (cc e)
      below (x ∷ xs) zero k e = omega arith
      below (x ∷ xs) (suc q) k e = let l = below xs q k e in omega (arith, l)

  reads_there : (q : ℕ) (ys : List Key) (z : Key) → Links (reads d) (key.Reset q) ys z → q < length d.places.resets
  reads_there q [] z l = there q (nth d.places.resets q) refl z l
  reads_there q (y ∷ ys) z l = there q (nth d.places.resets q) refl y l.0

  in_range : (c : List Key) (q : ℕ) → Cycle (reads d) c → In (key.Reset q) c → q < length d.places.resets
  in_range [] q l h = absurd l
  in_range (x ∷ xs) q l h = let t = turned (reads d) x xs (key.Reset q) l h in reads_there q t.0 (key.Reset q) t.1

  -- one is found
  pub some_inside : (c : List Key) → Cycle (reads d) c → others is_condition c ≡ [] → first_marked (marks_of d c) d.places.vars 0 ≡ None → ⊥
  some_inside c l h e =
      let s = held_in c l h in
      let long = blank_long (length d.places.resets) in
      let m = is_marked (blank (length d.places.resets)) c s.0 s.2 (subst (λ z. s.0 < z) (sym long) (in_range c s.0 l s.2)) in
      none_at (marks_of d c) d.places.vars 0 e s.1.0 s.1.1 s.1.2 (holds (marks_of d c) s.1.1.place s.0 s.1.3 m)

  -- and waits for itself
  pub waits_inside : (c : List Key) (x : ℕ) → Cycle (reads d) c → others is_condition c ≡ [] → first_marked (marks_of d c) d.places.vars 0 ≡ Some x
      → (x < length d.places.vars) × Cyclic d (key.Var x ∷ [])
  waits_inside c x l h e =
      let f = first_at (marks_of d c) d.places.vars 0 x e in
      let q = held (marks_of d c) f.1.place f.4 in
      let i : In (key.Reset q.0) c = elim (marks_only (blank (length d.places.resets)) c q.0 q.2) [ inl a ↦ absurd (none_marked (length d.places.resets) (blank (length d.places.resets)) refl q.0 a) | inr b ↦ b ] in
      let same : x ≡ f.0 = (let s = f.2 in omega (arith, s)) in
      let at = subst (λ z. nth d.places.vars z ≡ Some f.1) (sym same) f.3 in (
        inside d.places.vars x f.1 at,
        ((refl, tt), for_itself (key.Reset q.0) (here (key.Var x) (key.Reset q.0) (var_reads d nested q.0 x f.1 at q.1) refl) (within_itself is_condition (reads d) c (key.Reset q.0) l h i)),
      )
    where
      inside : (ws : List Variable) (x : ℕ) (w : Variable) → nth ws x ≡ Some w → x < length ws
      inside [] x w e = absurd (cc e)
      inside (v ∷ ws) zero w e = omega arith
      inside (v ∷ ws) (suc x) w e = let l = inside ws x w e in omega (arith, l)
