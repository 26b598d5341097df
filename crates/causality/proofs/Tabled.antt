-- The items of rows, by a table of all nodes, and the numbers of nodes.
use Rattle.std.specs.Prelude.{◌≡◌, refl, ℕ, zero, suc, ◌+◌, ◌<◌, ◌≤◌, ◌⊎◌, Bool, true, false, List, [], ◌∷◌, ◌++◌, map, length, Option, Some, None, slice_set, if◌then◌else◌}
use Rattle.std.proofs.Common.{ap, sym, subst, ◌∙◌, arith, inl, inr, drop, take, get_or, get_or-set_other, get_or-set_same}
use Rattle.std.proofs.Math.ListN.{length-set}
use Rattle.std.proofs.lemmas.List.{length-map, map-append}
use Rattle.std.proofs.lemmas.Grind.{common_steps}
use Rattle.ls_places.specs.Search.{count_up}
use Rattle.ls_places.specs.declared.definition.Definition.{Definition}
use Rattle.ls_places.specs.declared.definition.Key.{Key}
use Rattle.ls_sig.specs.declared.sigs.Item.{Item}
use Rattle.ls_sig.specs.declared.sigs.Item.TheVariants as item
use Rattle.digraph.specs.Graph.{In, first, later}
use Rattle.digraph.specs.Numbering.{Cycle, Links, OrderOf, place, same_number}
use Rattle.digraph.proofs.Marks.{none_in, in_cons, in_last, in_left, in_right}
use Rattle.digraph.proofs.Numbering.{order_numbers}
use Rattle.place_tables.proofs.Lists.{one_on}
use Rattle.causality_rules.specs.Items.{Cyclic, Ranked, WaitsForItself, is_condition, items, key_of}
use Rattle.causality_rules.specs.Laws.{ModesPaired, ResetsNested}
use Rattle.causality_rules.specs.Reads.{reads}
use Rattle.causality.specs.Cycles.{first_marked, marks_of, option_var, others}
use Rattle.causality.specs.Items.{Rowed, item_rows, with_row}
use Rattle.causality.specs.Nodes.{all_nodes, counts, key_node, node_at, total}
use Rattle.causality.specs.Ranks.{ArePlaces, ranked}
use Rattle.causality.specs.Rows.{node_row, rows}
use Rattle.causality.specs.Table.{AreItems, AreOf, IsTable, item_at, rowed}
use Rattle.causality.specs.declared.nodes.Node.{Node}
use Rattle.causality.specs.declared.nodes.Node.TheVariants as node
use Rattle.causality.proofs.Conditions.{some_inside, waits_inside}
use Rattle.causality.proofs.ItemRows.{has_item}
use Rattle.causality.proofs.Known.{key_below, known, nodes_long}
use Rattle.causality.proofs.Lists.{in_count, in_map, of_map}
use Rattle.causality.proofs.Waiting.{others_items, others_wait, turned}
use Rattle.causality.proofs.Ways.{rows_rise}

-- ---- a table that is written

same_or_not : (x y : ℕ) → (x ≡ y) ⊎ (x ≡ y → ⊥)
same_or_not x y = grind arith

set_at : (t : List (Option Item)) (x : ℕ) (v : Option Item) → x < length t → item_at (slice_set t x v) x ≡ v
set_at t x v l = get_or-set_same t x v None l

set_past : (t : List (Option Item)) (x y : ℕ) (v : Option Item) → (y ≡ x → ⊥) → item_at (slice_set t x v) y ≡ item_at t y
set_past t x y v n = get_or-set_other t x y v None n

number_at : (t : List ℕ) (x v : ℕ) → x < length t → get_or (slice_set t x v) x 0 ≡ v
number_at t x v l = get_or-set_same t x v 0 l

number_past : (t : List ℕ) (x y v : ℕ) → (y ≡ x → ⊥) → get_or (slice_set t x v) y 0 ≡ get_or t y 0
number_past t x y v n = get_or-set_other t x y v 0 n

in_rest : (y x : ℕ) (ys : List ℕ) → (y ≡ x → ⊥) → In x (y ∷ ys) → In x ys
in_rest y x ys n h = elim (in_cons x y ys h) [ inl e ↦ absurd (n (sym e)) | inr i ↦ i ]

module _ (d : Definition) where
  abbrev at : Key → ℕ
  at = key_node (counts d)

  -- one more item of a row
  abbrev Before : List Rowed → List (Option Item) → Type 0
  Before = IsTable d

  in_before : (r : Rowed) (i : Item) (k : Key) (rs : List Rowed) → In (rowed i k) (rs ++ r ∷ []) → (rowed i k ≡ r) ⊎ In (rowed i k) rs
  in_before r i k rs h = in_last (rowed i k) r rs h

  the_some : (x y : Item) → Some x ≡ Some y → x ≡ y
  the_some x y e = cc e

  pub table_next : (rs : List Rowed) (t : List (Option Item)) (r : Rowed) → at r.1 < length t → IsTable d rs t → IsTable d (rs ++ r ∷ []) (slice_set t (at r.1) (Some r.0))
  table_next rs t r l it = record {
    only = λ x i e. elim (same_or_not x (at r.1)) [
      | inl s ↦
          let v = the_some r.0 i (sym (set_at t (at r.1) (Some r.0) l) ∙ subst (λ z. item_at (slice_set t (at r.1) (Some r.0)) z ≡ Some i) s e) in
          (r.1, subst (λ z. In (rowed z r.1) (rs ++ r ∷ [])) v (in_right r rs (r ∷ []) (first [])), sym s)
      | inr n ↦
          let o = it.only x i (sym (set_past t (at r.1) x (Some r.0) n) ∙ e) in
          (o.0, in_left (rowed i o.0) rs (r ∷ []) o.1, o.2)
    ];
    all = λ i k h. elim (same_or_not (at k) (at r.1)) [
      | inl s ↦ (r.0, ap (item_at (slice_set t (at r.1) (Some r.0))) s ∙ set_at t (at r.1) (Some r.0) l)
      | inr n ↦ elim (in_before r i k rs h) [
        | inl e ↦ absurd (n (ap (λ (z : Rowed). at z.1) e))
        | inr b ↦ let o = it.all i k b in (o.0, set_past t (at r.1) (at k) (Some r.0) n ∙ o.1)
      ]
    ];
  }

  taken : {A : Type 0} (all : List A) (i : ℕ) (x : A) → i < length all → get_or all i x ≡ x → take (i + 1) all ≡ take i all ++ x ∷ []
  taken all i x below is = grind (arith, common_steps)

  pub table_step : (all : List Rowed) (i : ℕ) (t new : List (Option Item)) (r : Rowed) (n : ℕ) → i < length all → get_or all i r ≡ r → n ≡ at r.1 → n < length t → new ≡ slice_set t n (Some r.0)
      → IsTable d (take i all) t → IsTable d (take (i + 1) all) new
  table_step all i t new r n below is e l w it =
      subst (λ z. IsTable d z new) (sym (taken all i r below is))
      (subst (IsTable d (take i all ++ r ∷ [])) (sym (w ∙ ap (λ z. slice_set t z (Some r.0)) e)) (table_next (take i all) t r (subst (λ z. z < length t) e l) it))

  -- a table of nothing
  pub table_none : (t : List (Option Item)) → ((x : ℕ) → item_at t x ≡ None) → IsTable d [] t
  table_none t none = record {
    only = λ x i e. absurd (cc (sym (none x) ∙ e));
    all = λ i k h. absurd (none_in h);
  }

  -- ---- what is found in the table

  abbrev T : List (Option Item) → Type 0
  T = IsTable d (item_rows d)

  abbrev key_in : Node → Key → Key
  key_in node.Nothing k = k
  key_in (node.Row j) k = j
  key_in (node.Whole w) k = k

  no_row : (k : Key) → node.Nothing ≡ node.Row k → ⊥
  no_row k e = absurd (cc e)

  -- a node is that of one row
  same_row : (j k : Key) → at j ≡ at k → node_at (counts d) (at k) ≡ node.Row k → j ≡ k
  same_row j k e row = elim (known d j) [
    | inl f ↦ ap (λ z. key_in z k) (sym f ∙ ap (node_at (counts d)) e ∙ row)
    | inr f ↦ absurd (no_row k (ap (node_at (counts d)) (sym f.0 ∙ e) ∙ row))
  ]

  -- the item of a row is one of this row
  there : (t : List (Option Item)) (k : Key) (i : Item) → T t → node_at (counts d) (at k) ≡ node.Row k → item_at t (at k) ≡ Some i → In i (items d) × (key_of d i ≡ k)
  there t k i it row e =
      let o = it.only (at k) i e in
      let m = of_map (with_row d) (rowed i o.0) (items d) o.1 in
      let same : i ≡ m.0 = ap (λ (z : Rowed). z.0) m.2 in
      let is : o.0 ≡ key_of d i = ap (λ (z : Rowed). z.1) m.2 ∙ ap (key_of d) (sym same) in (
        subst (λ z. In z (items d)) (sym same) m.1,
        sym is ∙ same_row o.0 k o.2 row,
      )

  -- and there is one
  some_there : (t : List (Option Item)) (k : Key) → T t → (i : Item) → In i (items d) → key_of d i ≡ k → item_at t (at k) ≡ None → ⊥
  some_there t k it i h e none =
      let m = in_map (with_row d) i (items d) h in
      let o = it.all i k (subst (λ z. In (rowed i z) (item_rows d)) e m) in
      absurd (cc (sym none ∙ o.1))

  in_at : {A : Type 0} (all : List A) (i : ℕ) (x : A) → i < length all → get_or all i x ≡ x → In x all
  in_at [] i x l e = absurd (omega (arith, l))
  in_at (y ∷ ys) zero x l e = subst (λ z. In z (y ∷ ys)) e (first ys)
  in_at (y ∷ ys) (suc i) x l e = later y ys (in_at ys i x (omega (arith, l)) e)

  -- one more row, with its item
  pub found_next : (t : List (Option Item)) (all : List Key) (i : ℕ) (k : Key) (done new : List Item) (x : Item) → T t → AreItems d all → i < length all → get_or all i k ≡ k
      → item_at t (at k) ≡ Some x → new ≡ done ++ x ∷ [] → AreOf d done (take i all) → AreOf d new (take (i + 1) all)
  found_next t all i k done new x it are below is e put so_far =
      let has = are k (in_at all i k below is) in
      let o = there t k x it has.3 e in
      record {
        rows = ap (map (key_of d)) put ∙ map-append (key_of d) done (x ∷ []) ∙ ap (λ z. z ++ key_of d x ∷ []) so_far.rows ∙ ap (λ z. take i all ++ z ∷ []) o.1 ∙ sym (taken all i k below is);
        known = λ j h. elim (in_last j x done (subst (In j) put h)) [ inl s ↦ subst (λ z. In z (items d)) (sym s) o.0 | inr b ↦ so_far.known j b ];
      }

  pub found_none : (t : List (Option Item)) (all : List Key) (i : ℕ) (k : Key) → T t → AreItems d all → i < length all → get_or all i k ≡ k → item_at t (at k) ≡ None → ⊥
  found_none t all i k it are below is none = let has = are k (in_at all i k below is) in some_there t k it has.0 has.1 has.2 none

  -- ---- the rows of a cycle

  in_others : (k : Key) (xs : List Key) → In k (others is_condition xs) → In k xs × (is_condition k ≡ false)
  in_others k [] h = absurd (none_in h)
  in_others k (x ∷ xs) h = by_kind (is_condition x) refl h (in_others k xs)
    where
      by_kind : (c : Bool) → is_condition x ≡ c → In k (if c then others is_condition xs else x ∷ others is_condition xs) → (In k (others is_condition xs) → In k xs × (is_condition k ≡ false))
          → In k (x ∷ xs) × (is_condition k ≡ false)
      by_kind true e h f = let r = f h in (later x xs r.0, r.1)
      by_kind false e h f = elim (in_cons k x (others is_condition xs) h) [
        | inl s ↦ (subst (λ z. In z (x ∷ xs)) (sym s) (first xs), ap is_condition s ∙ e)
        | inr i ↦ let r = f i in (later x xs r.0, r.1)
      ]

  first_read : (k : Key) (ys : List Key) (z : Key) → Links (reads d) k ys z → (y : Key) × In y (reads d k)
  first_read k [] z l = (z, l)
  first_read k (y ∷ ys) z l = (y, l.0)

  on_cycle : (c : List Key) (k : Key) → Cycle (reads d) c → In k c → (y : Key) × In y (reads d k)
  on_cycle [] k l h = absurd l
  on_cycle (x ∷ xs) k l h = let t = turned (reads d) x xs k l h in first_read k t.0 k t.1

  row_known : (k y : Key) → In y (reads d k) → node_at (counts d) (at k) ≡ node.Row k
  row_known k y h = elim (known d k) [ inl e ↦ e | inr e ↦ absurd (none_in (subst (In y) e.1 h)) ]

  -- those that are no conditions are rows of items
  pub are_items : ModesPaired false d.places.names → (c ks : List Key) → Cycle (reads d) c → ks ≡ others is_condition c → AreItems d ks
  are_items paired c ks l e k h =
      let o = in_others k c (subst (In k) e h) in
      let r = on_cycle c k l o.0 in
      let i = has_item d paired k r.0 o.1 r.1 in
      (i.0, i.1, i.2, row_known k r.0 r.1)

  not_none : (ks : List Key) → (0 ≡ length ks → ⊥) → ks ≡ [] → ⊥
  not_none ks n e = n (sym (ap (λ (z : List Key). length z) e))

  -- and wait for one another
  pub they_wait : (c ks : List Key) (found : List Item) → Cycle (reads d) c → ks ≡ others is_condition c → (ks ≡ [] → ⊥) → AreOf d found ks → WaitsForItself d found
  they_wait c ks found l e some are = record {
    known = are.known;
    cyclic = subst (λ z. Cyclic d z) (sym (are.rows ∙ e)) (others_items is_condition (reads d) c, others_wait is_condition (reads d) c l (λ q. some (e ∙ q)));
  }

  one_known : (x : ℕ) → x < length d.places.vars → (i : Item) → In i (item.Var x ∷ []) → In i (items d)
  one_known x l i h = elim (in_cons i (item.Var x) [] h) [
    | inl e ↦ subst (λ z. In z (items d)) (sym e)
        (in_left (item.Var x) (map {A = ℕ} {B = Item} item.Var (count_up (length d.places.vars) 0)) _ (in_map item.Var x (count_up (length d.places.vars) 0) (in_count (length d.places.vars) x l)))
    | inr n ↦ absurd (none_in n)
  ]

  pub it_waits : ResetsNested d → (c : List Key) (o : Option ℕ) → Cycle (reads d) c → others is_condition c ≡ [] → first_marked (marks_of d c) d.places.vars 0 ≡ o → WaitsForItself d (option_var o)
  it_waits nested c None l h e = absurd (some_inside d nested c l h e)
  it_waits nested c (Some x) l h e = let w = waits_inside d nested c x l h e in record { known = one_known x w.0; cyclic = w.1 }

  -- ---- numbers

  pub rows_long : length (rows d) ≡ total (counts d)
  rows_long = mapped (all_nodes (counts d)) ∙ nodes_long (counts d)
    where
      mapped : (ns : List Node) → length (map (node_row d) ns) ≡ length ns
      mapped ns = length-map ns (node_row d)

  in_order : (order : List ℕ) → OrderOf (rows d) order → (k : Key) → In (at k) order
  in_order order o k = o.all (at k) (subst (λ z. at k < z) (sym rows_long) (key_below (counts d) k))

  ranks_are : (order table : List ℕ) → OrderOf (rows d) order → ArePlaces table order → length table ≡ total (counts d) → (is : List Item)
      → map (ranked d table) (map {A = Item} {B = Rowed} (with_row d) is) ≡ map (λ i. (i, place same_number order (at (key_of d i)))) is
  ranks_are order table o are long [] = refl
  ranks_are order table o are long (i ∷ is) =
      let k = key_of d i in
      ap (λ z. (i, z) ∷ map (ranked d table) (map {A = Item} {B = Rowed} (with_row d) is)) (are (at k) (subst (λ z. at k < z) (sym long) (key_below (counts d) k)) (in_order order o k))
      ∙ ap (λ z. (i, place same_number order (at k)) ∷ z) (ranks_are order table o are long is)

  -- an order of the nodes numbers the items
  pub order_ranks : (g : List (List ℕ)) (order table : List ℕ) (list : List (Item × ℕ)) → g ≡ rows d → OrderOf g order → ArePlaces table order → length table ≡ total (counts d)
      → list ≡ map (ranked d table) (item_rows d) → Ranked d list
  order_ranks g order table list e o are long is =
      let q : OrderOf (rows d) order = subst (λ z. OrderOf z order) e o in (
        (λ k. place same_number order (at k)),
        rows_rise d (place same_number order) (order_numbers (rows d) order q),
        is ∙ ranks_are order table q are long (items d),
      )

-- ---- places in an order, from its end on

place_here : (x y : ℕ) (ys : List ℕ) → y ≡ x → place same_number (y ∷ ys) x ≡ 0
place_here x y ys e = by_test (same_number y x) (same y x e)
  where
    same : (y x : ℕ) → y ≡ x → same_number y x ≡ true
    same y x e = grind (arith, e)

    by_test : (t : Bool) → t ≡ true → (if t then 0 else suc (place same_number ys x)) ≡ 0
    by_test t e = ap (λ z. if z then 0 else suc (place same_number ys x)) e

place_past : (x y : ℕ) (ys : List ℕ) → (y ≡ x → ⊥) → place same_number (y ∷ ys) x ≡ suc (place same_number ys x)
place_past x y ys n = by_test (same_number y x) (other y x n)
  where
    other : (y x : ℕ) → (y ≡ x → ⊥) → same_number y x ≡ false
    other y x n = grind (arith, n)

    by_test : (t : Bool) → t ≡ false → (if t then 0 else suc (place same_number ys x)) ≡ suc (place same_number ys x)
    by_test t e = ap (λ z. if z then 0 else suc (place same_number ys x)) e

-- the places of those from the i-th on
abbrev pub From : List ℕ → List ℕ → ℕ → Type 0
From at order i = (x : ℕ) → x < length at → In x (drop i order) → get_or at x 0 ≡ i + place same_number (drop i order) x

from_here : (at rest : List ℕ) (i y x : ℕ) → y ≡ x → get_or at x 0 ≡ i → get_or at x 0 ≡ i + place same_number (y ∷ rest) x
from_here at rest i y x e h = let p = place_here x y rest e in omega (arith, h, p)

from_past : (at rest : List ℕ) (i y x : ℕ) → (y ≡ x → ⊥) → get_or at x 0 ≡ (i + 1) + place same_number rest x → get_or at x 0 ≡ i + place same_number (y ∷ rest) x
from_past at rest i y x n h = let p = place_past x y rest n in omega (arith, h, p)

from_cons : (at order : List ℕ) (i y : ℕ) → drop i order ≡ y ∷ drop (i + 1) order → ((x : ℕ) → x < length at → In x (y ∷ drop (i + 1) order) → get_or at x 0 ≡ i + place same_number (y ∷ drop (i + 1) order) x)
    → From at order i
from_cons at order i y e f = subst (λ z. (x : ℕ) → x < length at → In x z → get_or at x 0 ≡ i + place same_number z x) (sym e) f

-- one more from the end
pub from_next : (at new order : List ℕ) (i y : ℕ) → i < length order → get_or order i y ≡ y → y < length at → new ≡ slice_set at y i → From at order (i + 1) → From new order i
from_next at new order i y below is l w f =
    subst (λ z. From z order i) (sym w) (from_cons (slice_set at y i) order i y (one_on order i y below is)
    (λ x m h. elim (same_or_not y x) [
      | inl e ↦ from_here (slice_set at y i) (drop (i + 1) order) i y x e (subst (λ z. get_or (slice_set at y i) z 0 ≡ i) e (number_at at y i l))
      | inr n ↦ from_past (slice_set at y i) (drop (i + 1) order) i y x n (number_past at y x i (λ s. n (sym s)) ∙ f x (subst (λ z. x < z) (length-set at y i) m) (in_rest y x (drop (i + 1) order) n h))
    ]))

-- a number that is no node
pub from_skip : (at order : List ℕ) (i y : ℕ) → i < length order → get_or order i y ≡ y → length at ≤ y → From at order (i + 1) → From at order i
from_skip at order i y below is l f =
    from_cons at order i y (one_on order i y below is)
    (λ x m h. elim (same_or_not y x) [
      | inl e ↦ absurd (omega (arith, e, l, m))
      | inr n ↦ from_past at (drop (i + 1) order) i y x n (f x m (in_rest y x (drop (i + 1) order) n h))
    ])

pub from_end : (at order : List ℕ) (i : ℕ) → i ≡ length order → From at order i
from_end at order i e = λ x l h. absurd (none_in (subst (In x) (ended order i e) h))
  where
    ended : (order : List ℕ) (i : ℕ) → i ≡ length order → drop i order ≡ []
    ended order i e = grind (arith, common_steps)

pub from_all : (at order : List ℕ) (i : ℕ) → i ≡ 0 → From at order i → ArePlaces at order
from_all at order i e f x l h = let g : From at order 0 = subst (From at order) e f in g x l h ∙ omega arith
