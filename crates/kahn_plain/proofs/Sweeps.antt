-- Rows made anew one after the other say no more than the table, and in the end as much.
use Rattle.std.specs.Prelude.{◌≡◌, refl, ℕ, zero, suc, ◌+◌, ◌-◌, ◌*◌, ◌<◌, ◌≤◌, ◌==◌, ◌&&◌, ◌||◌, Bool, true, false, List, [], ◌∷◌, ◌++◌, map, length, Option, Some, None, Result, Ok, Err, IfOk, ◌⊎◌, nat_lt, if◌then◌else◌}
use Rattle.std.proofs.Common.{ap, arith, inl, inr, subst, sym, ◌∙◌}
use Rattle.ls_places.specs.Search.{count_up}
use Rattle.ls_places.specs.declared.definition.Definition.{Definition}
use Rattle.ls_places.specs.declared.definition.Key.{Key}
use Rattle.ls_places.specs.declared.definition.Key.TheVariants as key
use Rattle.kahn_model.specs.declared.cell.Cell.{Cell}
use Rattle.kahn_model.specs.Fullness.{HasKey}
use Rattle.kahn_model.specs.Laws.{MeaningMonotone, RowsStayBelow, SettledIsTable, TurnMonotone}
use Rattle.kahn_model.specs.Order.{TableBelow}
use Rattle.kahn_model.specs.Rows.{Below, IsKnown, Row}
use Rattle.kahn_model.specs.Table
use Rattle.kahn_model.specs.Table.{cell_in, read, row_keys, same_key, written, written_row}
use Rattle.kahn_model.specs.Turn.{Table as Asked}
use Rattle.kahn_model.proofs.Below.{below_antisym, below_trans, none_below, none_some}
use Rattle.kahn_model.proofs.ByRows.{around_same}
use Rattle.kahn_model.proofs.Causal.{key_refl, eqb_refl}
use Rattle.kahn_model.proofs.Filling.{below_or_equal, cell_written, eqb_same, key_same}
use Rattle.kahn_model.proofs.OneByOne.{read_below_written, written_within}
use Rattle.kahn_model.proofs.Solutions.{read_below}
use Rattle.kahn_model.specs.Order.{RowsBelow}
use Rattle.kahn_exprs.specs.declared.body.Body.{Body}
use Rattle.kahn_exprs.specs.declared.table.Rows.{Rows}
use Rattle.kahn_exprs.specs.Body as spec
use Rattle.kahn_exprs.specs.Standing.{InRange, Put, row, table}
use Rattle.kahn_plain.specs.Turns as own
use Rattle.kahn_plain.specs.Turns.{Merged, MergedAt}
use Rattle.kahn_plain.specs.declared.turns.Kind.{Kind}
use Rattle.kahn_plain.specs.declared.turns.Kind.TheVariants as kind

-- ---- rows that are full

pub known_more : {A : Type 0} (r : Row A) (i : ℕ) → ((j : ℕ) → j < i → IsKnown (r j)) → IsKnown (r i) → (j : ℕ) → j < i + 1 → IsKnown (r j)
known_more r i f x j p = elim (below_or_equal j i (omega (arith, p))) [ inl l ↦ f j l | inr e ↦ subst (λ m. IsKnown (r m)) (sym e) x ]

pub some_is : {A : Type 0} (o : Option A) (x : A) → Some x ≡ o → IsKnown o
some_is o x e = (x, sym e)

-- ---- a cell that is put

lt_is : (i n : ℕ) → i < n → nat_lt i n ≡ true
lt_is i n p = grind (arith, p)

put_grows : (t u v : Bool) (x : Cell) (c old new : Option Cell) → new ≡ (if t && (u && v) then c else old) → (u ≡ true → v ≡ true → old ≡ None) → old ≡ Some x → new ≡ Some x
put_grows true true true x c old new e f q = none_some x (sym (f refl refl) ∙ q)
put_grows true true false x c old new e f q = e ∙ q
put_grows true false v x c old new e f q = e ∙ q
put_grows false u v x c old new e f q = e ∙ q

put_only : (t u v : Bool) (x : Cell) (c old new : Option Cell) → new ≡ (if t && (u && v) then c else old) → new ≡ Some x → (old ≡ Some x) ⊎ ((u ≡ true) × (v ≡ true) × (c ≡ Some x))
put_only true true true x c old new e q = inr (refl, refl, sym e ∙ q)
put_only true true false x c old new e q = inl (sym e ∙ q)
put_only true false v x c old new e q = inl (sym e ∙ q)
put_only false u v x c old new e q = inl (sym e ∙ q)

put_same : (t b : Bool) (c old new : Option Cell) → new ≡ (if t && b then c else old) → t ≡ false → new ≡ old
put_same t b c old new e f = e ∙ ap (λ s. if s && b then c else old) f

put_there : (t u v : Bool) (c old new : Option Cell) → new ≡ (if t && (u && v) then c else old) → t ≡ true → u ≡ true → v ≡ true → new ≡ c
put_there t u v c old new e f g h = e ∙ ap (λ s. if s && (u && v) then c else old) f ∙ ap (λ s. if s && v then c else old) g ∙ ap (λ s. if s then c else old) h

pub put_merged : (k : Key) (i : ℕ) (cells : List (Option Cell)) (old new : Rows) (c : Cell) (there : Bool) → Some c ≡ cell_in cells i → None ≡ table old k i → Put old k i c there new
    → there ≡ nat_lt i (length (row old k)) → ((l : Key) → length (row new l) ≡ length (row old l)) → MergedAt k i cells old there new
put_merged k i cells old new c there is none put at lengths = record {
  lengths = lengths;
  grows = λ l j x e. put_grows there (same_key k l) (i == j) x (Some c) (table old l j) (table new l j) (put l j)
      (λ u v. ap (λ z. table old z j) (sym (key_same k l u)) ∙ ap (table old k) (sym (eqb_same i j v)) ∙ sym none) e;
  only = λ l j x e. elim (put_only there (same_key k l) (i == j) x (Some c) (table old l j) (table new l j) (put l j) e) [
    | inl q ↦ inl q
    | inr q ↦ inr (sym (key_same k l q.0), sym (eqb_same i j q.1), sym is ∙ q.2)
  ];
  filled = λ p q x e. put_there there (same_key k k) (i == i) (Some c) (table old k i) (table new k i) (put k i) (at ∙ lt_is i (length (row old k)) p) (key_refl k) (eqb_refl i) ∙ is ∙ e;
  same = λ e l j. put_same there (same_key k l && i == j) (Some c) (table old l j) (table new l j) (put l j) e;
}

-- ---- the cells of a row

or_left : (s t : Bool) → (s || t) ≡ false → s ≡ false
or_left true t e = e
or_left false t e = refl

or_right : (s t : Bool) → (s || t) ≡ false → t ≡ false
or_right true t e = absurd (cc)
or_right false t e = e

pub merged_none : (k : Key) (cells : List (Option Cell)) (old : Rows) → Merged k 0 cells old false old
merged_none k cells old = record {
  lengths = λ l. refl;
  grows = λ l i x e. e;
  only = λ l i x e. inl e;
  filled = λ p i q. absurd (omega (arith, q));
  same = λ e l i. refl;
}

by_old : (k : Key) (i j : ℕ) (old mid : Rows) (cells : List (Option Cell)) → ((l : Key) (j : ℕ) (x : Cell) → table mid l j ≡ Some x → (table old l j ≡ Some x) ⊎ ((l ≡ k) × (j < i) × (cell_in cells j ≡ Some x)))
    → j ≡ i → table old k j ≡ None → (o : Option Cell) → table mid k j ≡ o → o ≡ None
by_old k i j old mid cells only e none None q = refl
by_old k i j old mid cells only e none (Some y) q = elim (only k j y q) [ inl r ↦ none_some y (sym none ∙ r) | inr r ↦ absurd (omega (arith, r.1, e)) ]

pub merged_more : (k : Key) (i : ℕ) (cells : List (Option Cell)) (old mid new : Rows) (s t r : Bool) → Merged k i cells old s mid → MergedAt k i cells mid t new → r ≡ (s || t) → Merged k (i + 1) cells old r new
merged_more k i cells old mid new s t r m n is = record {
  lengths = λ l. n.lengths l ∙ m.lengths l;
  grows = λ l j x e. n.grows l j x (m.grows l j x e);
  only = λ l j x e. elim (n.only l j x e) [
    | inl q ↦ elim (m.only l j x q) [ inl p ↦ inl p | inr p ↦ inr (p.0, omega (arith, p.1), p.2) ]
    | inr q ↦ inr (q.0, omega (arith, q.1), ap (cell_in cells) q.1 ∙ q.2)
  ];
  filled = λ p j q none. elim (below_or_equal j i (omega (arith, q))) [
    | inl l ↦ below_trans (cell_in cells j) (table mid k j) (table new k j) (m.filled (omega (arith, p)) j l none) (n.grows k j)
    | inr e ↦ subst (λ z. Below (cell_in cells z) (table new k z)) (sym e) (n.filled (omega (arith, p, m.lengths k)) (ap (table mid k) (sym e) ∙ by_old k i j old mid cells m.only e none (table mid k j) refl))
  ];
  same = λ e l j. n.same (or_right s t (sym is ∙ e)) l j ∙ m.same (or_left s t (sym is ∙ e)) l j;
}

-- ---- the rows of a body

-- the keys of a kind
has_kind : (of : ℕ → Key) (n j : ℕ) (k : Key) → HasKey k (map of (count_up n j)) → (x : ℕ) × (j ≤ x) × (x < j + n) × (of x ≡ k)
has_kind of zero j k h = absurd h
has_kind of (suc n) j k (inl e) = (j, omega arith, omega arith, key_same (of j) k e)
has_kind of (suc n) j k (inr h) = let r = has_kind of n (suc j) k h in (r.0, omega (arith, r.1), omega (arith, r.2), r.3)

has_split : (k : Key) (xs ys : List Key) → HasKey k (xs ++ ys) → HasKey k xs ⊎ HasKey k ys
has_split k [] ys h = inr h
has_split k (x ∷ xs) ys (inl e) = inl (inl e)
has_split k (x ∷ xs) ys (inr h) = elim (has_split k xs ys h) [ inl p ↦ inl (inr p) | inr p ↦ inr p ]

has_left : (k : Key) (xs ys : List Key) → HasKey k xs → HasKey k (xs ++ ys)
has_left k [] ys h = absurd h
has_left k (x ∷ xs) ys (inl e) = inl e
has_left k (x ∷ xs) ys (inr h) = inr (has_left k xs ys h)

has_right : (k : Key) (xs ys : List Key) → HasKey k ys → HasKey k (xs ++ ys)
has_right k [] ys h = h
has_right k (x ∷ xs) ys h = inr (has_right k xs ys h)

kind_has : (of : ℕ → Key) (n j x : ℕ) → j ≤ x → x < j + n → HasKey (of x) (map of (count_up n j))
kind_has of zero j x p q = absurd (omega (arith, p, q))
kind_has of (suc n) j x p q = elim (below_or_equal j x (omega (arith, p))) [
  | inl l ↦ inr (kind_has of n (suc j) x (omega (arith, l)) (omega (arith, q)))
  | inr e ↦ inl (ap (λ z. same_key (of z) (of x)) e ∙ key_refl (of x))
]

module _ (d : Definition) where
  abbrev vars : List Key
  vars = map key.Var (count_up (length d.places.vars) 0)

  abbrev starts : List Key
  starts = map key.Start (count_up (length d.places.vars) 0)

  abbrev names : List Key
  names = map key.Name (count_up (length d.places.names) (length d.params))

  abbrev resets : List Key
  resets = map key.Reset (count_up (length d.places.resets) 0)

  range_var : (k : Key) → HasKey k vars → InRange d k
  range_var k h = let r = has_kind key.Var (length d.places.vars) 0 k h in subst (InRange d) r.3 (omega (arith, r.2))

  range_start : (k : Key) → HasKey k starts → InRange d k
  range_start k h = let r = has_kind key.Start (length d.places.vars) 0 k h in subst (InRange d) r.3 (omega (arith, r.2))

  range_name : (k : Key) → HasKey k names → InRange d k
  range_name k h = let r = has_kind key.Name (length d.places.names) (length d.params) k h in subst (InRange d) r.3 (r.1, r.2)

  range_reset : (k : Key) → HasKey k resets → InRange d k
  range_reset k h = let r = has_kind key.Reset (length d.places.resets) 0 k h in subst (InRange d) r.3 (omega (arith, r.2))

  pub has_range : (k : Key) → HasKey k (row_keys d) → InRange d k
  has_range k h = elim (has_split k ((vars ++ starts) ++ names) resets h) [
    | inr p ↦ range_reset k p
    | inl p ↦ elim (has_split k (vars ++ starts) names p) [
      | inr q ↦ range_name k q
      | inl q ↦ elim (has_split k vars starts q) [ inl r ↦ range_var k r | inr r ↦ range_start k r ]
    ]
  ]

  pub range_has : (k : Key) → InRange d k → HasKey k (row_keys d)
  range_has (key.Var x) p = has_left (key.Var x) ((vars ++ starts) ++ names) resets (has_left (key.Var x) (vars ++ starts) names
      (has_left (key.Var x) vars starts (kind_has key.Var (length d.places.vars) 0 x (omega arith) (omega (arith, p)))))
  range_has (key.Start x) p = has_left (key.Start x) ((vars ++ starts) ++ names) resets (has_left (key.Start x) (vars ++ starts) names
      (has_right (key.Start x) vars starts (kind_has key.Start (length d.places.vars) 0 x (omega arith) (omega (arith, p)))))
  range_has (key.Name x) p = has_left (key.Name x) ((vars ++ starts) ++ names) resets
      (has_right (key.Name x) (vars ++ starts) names (kind_has key.Name (length d.places.names) (length d.params) x p.0 p.1))
  range_has (key.Reset x) p = has_right (key.Reset x) ((vars ++ starts) ++ names) resets (kind_has key.Reset (length d.places.resets) 0 x (omega arith) (omega (arith, p)))

  count_length : (n j : ℕ) → length (count_up n j) ≡ n
  count_length zero j = refl
  count_length (suc n) j = ap suc (count_length n (suc j))

  map_length : {A B : Type 0} (f : A → B) (xs : List A) → length (map f xs) ≡ length xs
  map_length f [] = refl
  map_length f (x ∷ xs) = ap suc (map_length f xs)

  both_length : {A : Type 0} (xs ys : List A) → length (xs ++ ys) ≡ length xs + length ys
  both_length [] ys = zero_plus (length ys)
    where
      zero_plus : (n : ℕ) → n ≡ 0 + n
      zero_plus n = omega arith
  both_length (x ∷ xs) ys = ap suc (both_length xs ys) ∙ suc_plus (length xs) (length ys)
    where
      suc_plus : (m n : ℕ) → suc (m + n) ≡ suc m + n
      suc_plus m n = omega arith

  kind_length : (of : ℕ → Key) (n j : ℕ) → length (map of (count_up n j)) ≡ n
  kind_length of n j = map_length of (count_up n j) ∙ count_length n j

  pub keys_length : length (row_keys d) ≡ ((length d.places.vars + length d.places.vars) + length d.places.names) + length d.places.resets
  keys_length = both_length ((vars ++ starts) ++ names) resets
      ∙ ap (λ z. z + length resets) (both_length (vars ++ starts) names ∙ ap (λ z. z + length names) (both_length vars starts))
      ∙ four (length vars) (length starts) (length names) (length resets) (length d.places.vars) (length d.places.vars) (length d.places.names) (length d.places.resets)
      (kind_length key.Var (length d.places.vars) 0) (kind_length key.Start (length d.places.vars) 0) (kind_length key.Name (length d.places.names) (length d.params)) (kind_length key.Reset (length d.places.resets) 0)
    where
      four : (a b c e f g h i : ℕ) → a ≡ f → b ≡ g → c ≡ h → e ≡ i → ((a + b) + c) + e ≡ ((f + g) + h) + i
      four a b c e f g h i p q r s = omega (arith, p, q, r, s)

-- ---- rows anew

module _ (b : Body) where
  abbrev Mono : Type 0
  Mono = (T T' : Asked) → TableBelow T T' → TableBelow (own.turn_of b T) (own.turn_of b T')

  pub turn_mono : TurnMonotone → MeaningMonotone → Mono
  turn_mono turns means T T' p = turns (spec.cases b) b.defs.now (spec.call b) (means (spec.cases b) b.defs.now b.lines b.depth) b.def.now
      (spec.around b) (spec.around b) (around_same RowsBelow (λ A r i x e. e) (spec.around b)) T T' p

  module _ (mono : Mono) where
    stay : RowsStayBelow → (T : Asked) → TableBelow T (own.least b) → (k : Key) (i : ℕ) → InRange b.def.now k → i < b.lines → Below (own.turn_of b T k i) (own.least b k i)
    stay law T p k i h l = law (row_keys b.def.now) b.lines (own.turn_of b) mono T p k i (range_has b.def.now k h) l

    pub full_renewed : RowsStayBelow → (k : Key) (r : Rows) → own.Low b r → InRange b.def.now k → ((i : ℕ) → i < b.lines → IsKnown (table r k i)) → own.Renewed b (own.Only k) r false r
    full_renewed law k r low h full = record {
      low = low;
      grows = λ l i x e. e;
      turned = λ l is. subst (λ z. own.Turned b z r r) (sym is) (λ i p x q.
          let y = full i p in y.1 ∙ sym (low.below k i y.0 y.1) ∙ stay law (table r) low.below k i h p x q);
      same = λ e l i. refl;
    }

    filled_by : RowsStayBelow → (k : Key) (cells : List (Option Cell)) (r new : Rows) (more : Bool) → own.Low b r → InRange b.def.now k → Merged k b.lines cells r more new
        → (i : ℕ) → i < b.lines → cell_in cells i ≡ own.turn_of b (table r) k i → (o : Option Cell) → table r k i ≡ o → Below (own.turn_of b (table r) k i) (table new k i)
    filled_by law k cells r new more low h m i p e None q x f = m.filled (omega (arith, low.shaped k h)) i p q x (e ∙ f)
    filled_by law k cells r new more low h m i p e (Some y) q x f = m.grows k i y q ∙ sym (low.below k i y q) ∙ stay law (table r) low.below k i h p x f

    pub merged_renewed : RowsStayBelow → (k : Key) (cells : List (Option Cell)) (r new : Rows) (more : Bool) → own.Low b r → InRange b.def.now k
        → cells ≡ written_row b.lines 0 (own.turn_of b (table r) k) → Merged k b.lines cells r more new → own.Renewed b (own.Only k) r more new
    merged_renewed law k cells r new more low h is m =
        let at : (i : ℕ) → i < b.lines → cell_in cells i ≡ own.turn_of b (table r) k i
        = λ i p. ap (λ z. cell_in z i) is ∙ cell_written b.lines 0 i i (own.turn_of b (table r) k) p (omega arith) in
        record {
          low = record {
            below = λ l i x e. elim (m.only l i x e) [
              | inl q ↦ low.below l i x q
              | inr q ↦ subst (λ z. own.least b z i ≡ Some x) (sym q.0) (stay law (table r) low.below k i h q.1 x (sym (at i q.1) ∙ q.2))
            ];
            shaped = λ l p. m.lengths l ∙ low.shaped l p;
          };
          grows = m.grows;
          turned = λ l e. subst (λ z. own.Turned b z r new) (sym e) (λ i p. filled_by law k cells r new more low h m i p (at i p) (table r k i) refl);
          same = m.same;
        }

    pub then_renewed : (U V W : Key → Type 0) (old mid new : Rows) (s t r : Bool) → own.Renewed b U old s mid → own.Renewed b V mid t new → r ≡ (s || t) → ((k : Key) → W k → U k ⊎ V k)
        → own.Renewed b W old r new
    then_renewed U V W old mid new s t r m n is split = record {
      low = n.low;
      grows = λ l i x e. n.grows l i x (m.grows l i x e);
      turned = λ k w i p. elim (split k w) [
        | inl u ↦ below_trans (own.turn_of b (table old) k i) (table mid k i) (table new k i) (m.turned k u i p) (n.grows k i)
        | inr v ↦ below_trans (own.turn_of b (table old) k i) (own.turn_of b (table mid) k i) (table new k i) (mono (table old) (table mid) m.grows k i) (n.turned k v i p)
      ];
      same = λ e l i. n.same (or_right s t (sym is ∙ e)) l i ∙ m.same (or_left s t (sym is ∙ e)) l i;
    }

    pub none_renewed : (of : Kind) (from : ℕ) (r : Rows) → own.Low b r → own.Renewed b (own.OfKind of from 0) r false r
    none_renewed of from r low = record {
      low = low;
      grows = λ l i x e. e;
      turned = λ k w. absurd (omega (arith, w.1));
      same = λ e l i. refl;
    }

    one_more : (of : Kind) (from n : ℕ) (k : Key) → own.OfKind of from (n + 1) k → own.OfKind of from n k ⊎ own.Only (own.key_of of (from + n)) k
    one_more of from n k w = elim (below_or_equal w.0 n (omega (arith, w.1))) [ inl l ↦ inl (w.0, l, w.2) | inr e ↦ inr (w.2 ∙ ap (λ z. own.key_of of (from + z)) e) ]

    pub kind_more : (of : Kind) (from n : ℕ) (old mid new : Rows) (s t r : Bool) → own.Renewed b (own.OfKind of from n) old s mid → own.Renewed b (own.Only (own.key_of of (from + n))) mid t new → r ≡ (s || t)
        → own.Renewed b (own.OfKind of from (n + 1)) old r new
    kind_more of from n old mid new s t r m n' is = then_renewed (own.OfKind of from n) (own.Only (own.key_of of (from + n))) (own.OfKind of from (n + 1)) old mid new s t r m n' is (one_more of from n)

    abbrev Two : (Key → Type 0) → (Key → Type 0) → Key → Type 0
    Two U V k = U k ⊎ V k

    kinds : (k : Key) → InRange b.def.now k
        → Two (Two (own.OfKind kind.Var 0 (length b.def.now.places.vars)) (own.OfKind kind.Start 0 (length b.def.now.places.vars)))
        (Two (own.OfKind kind.Name (length b.def.now.params) (length b.def.now.places.names)) (own.OfKind kind.Reset 0 (length b.def.now.places.resets))) k
    kinds (key.Var x) p = inl (inl (x, p, ap key.Var (omega arith)))
    kinds (key.Start x) p = inl (inr (x, p, ap key.Start (omega arith)))
    kinds (key.Name x) p = inr (inl (x - length b.def.now.params, omega (arith, p.0, p.1), ap key.Name (omega (arith, p.0))))
    kinds (key.Reset x) p = inr (inr (x, p, ap key.Reset (omega arith)))

    pub four_renewed : (r0 r1 r2 r3 r4 : Rows) (s t u v p q r : Bool) → own.Renewed b (own.OfKind kind.Var 0 (length b.def.now.places.vars)) r0 s r1
        → own.Renewed b (own.OfKind kind.Start 0 (length b.def.now.places.vars)) r1 t r2
        → own.Renewed b (own.OfKind kind.Name (length b.def.now.params) (length b.def.now.places.names)) r2 u r3
        → own.Renewed b (own.OfKind kind.Reset 0 (length b.def.now.places.resets)) r3 v r4 → p ≡ (s || t) → q ≡ (u || v) → r ≡ (p || q)
        → own.Renewed b (InRange b.def.now) r0 r r4
    four_renewed r0 r1 r2 r3 r4 s t u v p q r a c d e f g h =
        let U : Key → Type 0 = own.OfKind kind.Var 0 (length b.def.now.places.vars) in
        let V : Key → Type 0 = own.OfKind kind.Start 0 (length b.def.now.places.vars) in
        let X : Key → Type 0 = own.OfKind kind.Name (length b.def.now.params) (length b.def.now.places.names) in
        let Y : Key → Type 0 = own.OfKind kind.Reset 0 (length b.def.now.places.resets) in
        then_renewed (Two U V) (Two X Y) (InRange b.def.now) r0 r2 r4 p q r
        (then_renewed U V (Two U V) r0 r1 r2 s t p a c f (λ k w. w)) (then_renewed X Y (Two X Y) r2 r3 r4 u v q d e g (λ k w. w)) h kinds

    -- ---- the table

    pub low_is : (r : Rows) → ((k : Key) (i : ℕ) → table r k i ≡ None) → ((k : Key) → InRange b.def.now k → length (row r k) ≡ b.lines) → own.Low b r
    low_is r none lengths = record { below = λ k i x e. none_some x (sym (none k i) ∙ e); shaped = lengths }

    pub above_zero : (r : Rows) → TableBelow (own.after b 0) (table r)
    above_zero r k i = below_trans (own.after b 0 k i) None (table r k i) (read_below_written (row_keys b.def.now) b.lines (λ k i. None) k i) (none_below (table r k i))

    pub above_more : (t : ℕ) (old new : Rows) (s : Bool) → TableBelow (own.after b t) (table old) → own.Renewed b (InRange b.def.now) old s new → TableBelow (own.after b (suc t)) (table new)
    above_more t old new s p m k i = below_trans (own.after b (suc t) k i) (read (written (row_keys b.def.now) b.lines (table new)) k i) (table new k i)
        (read_below (written (row_keys b.def.now) b.lines (own.turn_of b (own.after b t))) (written (row_keys b.def.now) b.lines (table new))
        (written_within (row_keys b.def.now) b.lines (own.turn_of b (own.after b t)) (table new)
        (λ l j h q. below_trans (own.turn_of b (own.after b t) l j) (own.turn_of b (table old) l j) (table new l j) (mono (own.after b t) (table old) p l j) (m.turned l (has_range b.def.now l h) j q))) k i)
        (read_below_written (row_keys b.def.now) b.lines (table new) k i)

    equal : (T U : Asked) → TableBelow T U → TableBelow U T → T ≡ U
    equal T U p q = λ t k i. below_antisym (T k i) (U k i) (p k i) (q k i) t

    pub above_is : (r : Rows) → own.Low b r → TableBelow (own.after b (length (row_keys b.def.now) * b.lines)) (table r) → table r ≡ own.least b
    above_is r low p = equal (table r) (own.least b) low.below p

    no_more : (o c : Option Cell) → Below o c → c ≡ None → o ≡ None
    no_more None c p e = refl
    no_more (Some x) c p e = none_some x (sym e ∙ p x refl)

    pub settled_is : SettledIsTable → (old new : Rows) (s : Bool) → own.Renewed b (InRange b.def.now) old s new → s ≡ false → table new ≡ own.least b
    settled_is law old new s m e =
        let T : Asked = table new in
        let same : table old ≡ T = λ t k i. sym (m.same e k i) t in
        let is : written (row_keys b.def.now) b.lines T ≡ Table.table_of (spec.cases b) b.defs.now b.lines (spec.call b) b.def.now (spec.around b)
        = law (row_keys b.def.now) b.lines (own.turn_of b) mono T m.low.below
        (λ k i h p none. ap (λ (U : Asked). own.turn_of b U k i) (sym same) ∙ no_more (own.turn_of b (table old) k i) (T k i) (m.turned k (has_range b.def.now k h) i p) none) in
        equal T (own.least b) m.low.below (λ k i. subst (λ R. Below (read R k i) (T k i)) is (read_below_written (row_keys b.def.now) b.lines T k i))

    -- ---- so many sweeps

    pub swept_none : (r : Rows) → own.Low b r → own.Swept b 0 r false r
    swept_none r low = record {
      low = low;
      table_is = λ e. absurd (cc);
      above = λ e t p. subst (λ m. TableBelow (own.after b m) (table r)) (plus_none t) p;
    }
      where
        plus_none : (t : ℕ) → t ≡ t + 0
        plus_none t = omega arith

    pub swept_more : (n : ℕ) (old mid new : Rows) (s : Bool) → own.Swept b n old false mid → own.Renewed b (InRange b.def.now) mid s new → own.Swept b (n + 1) old false new
    swept_more n old mid new s w m = record {
      low = m.low;
      table_is = λ e. absurd (cc);
      above = λ e t p. subst (λ z. TableBelow (own.after b z) (table new)) (plus_one t n) (above_more (t + n) mid new s (w.above refl t p) m);
    }
      where
        plus_one : (t n : ℕ) → suc (t + n) ≡ t + (n + 1)
        plus_one t n = omega arith

    pub swept_done : SettledIsTable → (times : ℕ) (old mid new : Rows) (s : Bool) → own.Renewed b (InRange b.def.now) mid s new → s ≡ false → own.Swept b times old true new
    swept_done law times old mid new s m e = record { low = m.low; table_is = λ f. settled_is law mid new s m e; above = λ f. absurd (cc) }

    all_cells : (v n r k l t : ℕ) → k ≡ ((v + v) + n) + r → t ≡ (((0 + v * l) + v * l) + n * l) + r * l → t ≡ k * l
    all_cells v n r k l t p e = e ∙ four v n r l ∙ ap (λ z. z * l) (sym p)
      where
        two : (a c l : ℕ) → a * l + c * l ≡ (a + c) * l
        two a c l = omega arith

        four : (v n r l : ℕ) → (((0 + v * l) + v * l) + n * l) + r * l ≡ (((v + v) + n) + r) * l
        four v n r l = ap (λ z. (z + n * l) + r * l) (ap (λ z. z + v * l) (omega arith) ∙ two v v l) ∙ ap (λ z. z + r * l) (two (v + v) n l) ∙ two ((v + v) + n) r l

    pub ended : (r0 r1 r2 r3 r4 : Rows) (done : Bool) → ((k : Key) (i : ℕ) → table r0 k i ≡ None)
        → own.Swept b (length b.def.now.places.vars * b.lines) r0 false r1 → own.Swept b (length b.def.now.places.vars * b.lines) r1 false r2
        → own.Swept b (length b.def.now.places.names * b.lines) r2 false r3 → own.Swept b (length b.def.now.places.resets * b.lines) r3 done r4 → table r4 ≡ own.least b
    ended r0 r1 r2 r3 r4 true none p q r s = s.table_is refl
    ended r0 r1 r2 r3 r4 false none p q r s =
        let v : ℕ = length b.def.now.places.vars * b.lines in
        let n : ℕ = length b.def.now.places.names * b.lines in
        let e : ℕ = length b.def.now.places.resets * b.lines in
        above_is r4 s.low (subst (λ z. TableBelow (own.after b z) (table r4))
        (all_cells (length b.def.now.places.vars) (length b.def.now.places.names) (length b.def.now.places.resets) (length (row_keys b.def.now)) b.lines ((((0 + v) + v) + n) + e) (keys_length b.def.now) refl)
        (s.above refl (((0 + v) + v) + n) (r.above refl ((0 + v) + v) (q.above refl (0 + v) (p.above refl 0 (above_zero r0))))))

    pub ended_by : (r0 r1 r2 r3 r4 : Rows) (v n e : ℕ) (s t u w : Bool) → ((k : Key) (i : ℕ) → table r0 k i ≡ None) → v ≡ length b.def.now.places.vars → n ≡ length b.def.now.places.names
        → e ≡ length b.def.now.places.resets → s ≡ false → t ≡ false → u ≡ false → own.Swept b (v * b.lines) r0 s r1 → own.Swept b (v * b.lines) r1 t r2 → own.Swept b (n * b.lines) r2 u r3
        → own.Swept b (e * b.lines) r3 w r4 → table r4 ≡ own.least b
    ended_by r0 r1 r2 r3 r4 v n e s t u w none ve ne ee se te ue p q r x = ended r0 r1 r2 r3 r4 w none
        (subst (λ m. own.Swept b (m * b.lines) r0 false r1) ve (subst (λ z. own.Swept b (v * b.lines) r0 z r1) se p))
        (subst (λ m. own.Swept b (m * b.lines) r1 false r2) ve (subst (λ z. own.Swept b (v * b.lines) r1 z r2) te q))
        (subst (λ m. own.Swept b (m * b.lines) r2 false r3) ne (subst (λ z. own.Swept b (n * b.lines) r2 z r3) ue r))
        (subst (λ m. own.Swept b (m * b.lines) r3 w r4) ee x)

    -- with counts that are known by equations
    pub four_by : (r0 r1 r2 r3 r4 : Rows) (s t u v p q r : Bool) (c1 c2 c3 c4 f : ℕ) → c1 ≡ length b.def.now.places.vars → c2 ≡ length b.def.now.places.vars → c3 ≡ length b.def.now.places.names
        → c4 ≡ length b.def.now.places.resets → f ≡ length b.def.now.params
        → own.Renewed b (own.OfKind kind.Var 0 c1) r0 s r1 → own.Renewed b (own.OfKind kind.Start 0 c2) r1 t r2
        → own.Renewed b (own.OfKind kind.Name f c3) r2 u r3 → own.Renewed b (own.OfKind kind.Reset 0 c4) r3 v r4 → p ≡ (s || t) → q ≡ (u || v) → r ≡ (p || q)
        → own.Renewed b (InRange b.def.now) r0 r r4
    four_by r0 r1 r2 r3 r4 s t u v p q r c1 c2 c3 c4 f e1 e2 e3 e4 e5 x y z w i j k = four_renewed r0 r1 r2 r3 r4 s t u v p q r
        (subst (λ m. own.Renewed b (own.OfKind kind.Var 0 m) r0 s r1) e1 x) (subst (λ m. own.Renewed b (own.OfKind kind.Start 0 m) r1 t r2) e2 y)
        (subst (λ m. own.Renewed b (own.OfKind kind.Name m (length b.def.now.places.names)) r2 u r3) e5 (subst (λ m. own.Renewed b (own.OfKind kind.Name f m) r2 u r3) e3 z))
        (subst (λ m. own.Renewed b (own.OfKind kind.Reset 0 m) r3 v r4) e4 w) i j k

pub ok_map : {T E : Type 0} (r : Result T E) (P Q : T → Type 0) → IfOk r P → ((v : T) → P v → Q v) → IfOk r Q
ok_map (Ok v) P Q p f = f v p
ok_map (Err e) P Q p f = p
