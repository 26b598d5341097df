-- The graph of the nodes and the reads of rows: a read has a way in the graph, and a cycle of nodes gives one of rows.
use Rattle.std.specs.Prelude.{◌≡◌, refl, ℕ, zero, suc, Bool, true, false, List, [], ◌∷◌, ◌++◌, map, slice_index_or}
use Rattle.std.proofs.Common.{ap, sym, subst, ◌∙◌, append_assoc, inl, inr}
use Rattle.ls_places.specs.declared.definition.Definition.{Definition}
use Rattle.ls_places.specs.declared.definition.Key.{Key}
use Rattle.digraph.specs.Graph.{In, reads as reads_of}
use Rattle.digraph.specs.Numbering.{Covers, Cycle, Links, Rising, more, one}
use Rattle.digraph.proofs.Marks.{none_in, in_left, in_right, in_either}
use Rattle.digraph.proofs.Numbering.{links_join, small_numbers}
use Rattle.causality_rules.specs.Reads.{reads, whole_rows}
use Rattle.causality.specs.Cycles.{cycle_rows, row_of}
use Rattle.causality.specs.Nodes.{all_nodes, counts, key_node, node_at, node_in, whole_node}
use Rattle.causality.specs.Rows.{key_nodes, keys, node_row, rows, whole_nodes, wholes}
use Rattle.causality.specs.declared.nodes.Node.{Node}
use Rattle.causality.specs.declared.nodes.Node.TheVariants as node
use Rattle.causality.proofs.Known.{known, known_whole}
use Rattle.causality.proofs.Lists.{in_map, of_map}
use Rattle.causality.proofs.Split.{key_read, read_then, whole_read}

module _ (d : Definition) where
  abbrev at : ℕ → Node
  at = node_at (counts d)

  abbrev graph : ℕ → List ℕ
  graph = reads_of (rows d)

  row_in : (ns : List Node) (x : ℕ) → slice_index_or (map (node_row d) ns) x [] ≡ node_row d (node_in ns x)
  row_in [] x = refl
  row_in (n ∷ ns) zero = refl
  row_in (n ∷ ns) (suc x) = row_in ns x

  -- the graph has at each number the row of the node there
  graph_at : (x : ℕ) → graph x ≡ node_row d (at x)
  graph_at x = row_in (all_nodes (counts d)) x

  graph_is : (x : ℕ) (n : Node) (y : ℕ) → at x ≡ n → In y (node_row d n) → In y (graph x)
  graph_is x n y e h = subst (In y) (sym (graph_at x ∙ ap (node_row d) e)) h

  -- ---- a read has a way

  whole_way : (k : ℕ) (y : Key) → In y (whole_rows d k) → In (key_node (counts d) y) (graph (whole_node (counts d) k))
  whole_way k y h = elim (known_whole d k) [
    | inl e ↦ graph_is (whole_node (counts d) k) (node.Whole k) (key_node (counts d) y) e (in_map (key_node (counts d)) y (whole_rows d k) h)
    | inr e ↦ absurd (none_in (subst (In y) e.1 h))
  ]

  covers : Covers (key_node (counts d)) (reads d) graph
  covers x y h = elim (known d x) [
    | inr e ↦ absurd (none_in (subst (In y) e.1 h))
    | inl e ↦
        let n = key_node (counts d) x in
        let m = key_node (counts d) y in
        let ks = key_nodes d (keys d x) in
        let ws = whole_nodes d (wholes d x) in
        elim (read_then d x y h) [
          | inl i ↦ one n m (graph_is n (node.Row x) m e (in_left m ks ws (in_map (key_node (counts d)) y (keys d x) i)))
          | inr r ↦
              let w = whole_node (counts d) r.0 in
              more n w m (graph_is n (node.Row x) w e (in_right w ks ws (in_map (whole_node (counts d)) r.0 (wholes d x) r.1))) (one w m (whole_way r.0 y r.2))
        ]
  ]

  -- a numbering of the nodes is one of the rows
  pub rows_rise : (rank : ℕ → ℕ) → Rising graph rank → Rising (reads d) (λ k. rank (key_node (counts d) k))
  rows_rise rank r = small_numbers (key_node (counts d)) (reads d) graph covers rank r

  -- ---- a cycle of nodes gives one of rows

  abbrev all_read : Node → List Key
  all_read node.Nothing = []
  all_read (node.Row k) = reads d k
  all_read (node.Whole k) = whole_rows d k

  abbrev is_whole : Node → Bool
  is_whole (node.Whole k) = true
  is_whole _ = false

  -- what a step from one node to another tells of rows
  abbrev Step : Node → Node → Type 0
  Step a node.Nothing = Unit {0}
  Step a (node.Row y) = In y (all_read a)
  Step a (node.Whole k) = (is_whole a ≡ false) × ((y : Key) → In y (whole_rows d k) → In y (all_read a))

  key_step : (a : Node) (y : Key) → In y (all_read a) → Step a (at (key_node (counts d) y))
  key_step a y h = elim (known d y) [
    | inl e ↦ subst (Step a) (sym e) h
    | inr e ↦ subst (λ z. Step a (at z)) (sym e.0) tt
  ]

  whole_step : (x : Key) (k : ℕ) → In k (wholes d x) → Step (node.Row x) (at (whole_node (counts d) k))
  whole_step x k h = elim (known_whole d k) [
    | inl e ↦ subst (Step (node.Row x)) (sym e) (refl, λ y i. whole_read d x k y h i)
    | inr e ↦ subst (λ z. Step (node.Row x) (at z)) (sym e.0) tt
  ]

  step_from : (a : Node) (m : ℕ) → In m (node_row d a) → Step a (at m)
  step_from node.Nothing m h = absurd (none_in h)
  step_from (node.Row x) m h = elim (in_either m (key_nodes d (keys d x)) (whole_nodes d (wholes d x)) h) [
    | inl i ↦ let r = of_map (key_node (counts d)) m (keys d x) i in
        subst (λ z. Step (node.Row x) (at z)) (sym r.2) (key_step (node.Row x) r.0 (key_read d x r.0 r.1))
    | inr i ↦ let r = of_map (whole_node (counts d)) m (wholes d x) i in
        subst (λ z. Step (node.Row x) (at z)) (sym r.2) (whole_step x r.0 r.1)
  ]
  step_from (node.Whole k) m h = let r = of_map (key_node (counts d)) m (whole_rows d k) h in
      subst (λ z. Step (node.Whole k) (at z)) (sym r.2) (key_step (node.Whole k) r.0 r.1)

  step : (n m : ℕ) → In m (graph n) → Step (at n) (at m)
  step n m h = step_from (at n) m (subst (In m) (graph_at n) h)

  -- a way of rows whose first is among some
  abbrev From : List Key → List Key → Key → Type 0
  From xs [] z = In z xs
  From xs (y ∷ ys) z = In y xs × Links (reads d) y ys z

  wider : (xs ys rest : List Key) (z : Key) → ((y : Key) → In y xs → In y ys) → From xs rest z → From ys rest z
  wider xs ys [] z f h = f z h
  wider xs ys (r ∷ rest) z f h = (f r h.0, h.1)

  links_of : (x : Key) (rest : List Key) (z : Key) → From (reads d x) rest z → Links (reads d) x rest z
  links_of x [] z h = h
  links_of x (r ∷ rest) z h = h

  no_way : (rest : List Key) (z : Key) → From [] rest z → ⊥
  no_way [] z h = none_in h
  no_way (r ∷ rest) z h = none_in h.0

  through : (a b : Node) (rest : List Key) (z : Key) → Step a b → From (all_read b) rest z → From (all_read a) (row_of b ++ rest) z
  through a node.Nothing rest z s h = absurd (no_way rest z h)
  through a (node.Row x) rest z s h = (s, links_of x rest z h)
  through a (node.Whole k) rest z s h = wider (whole_rows d k) (all_read a) rest z s.1 h

  way : (n : ℕ) (ns : List ℕ) (z : ℕ) (y : Key) → at z ≡ node.Row y → Links graph n ns z → From (all_read (at n)) (cycle_rows d ns) y
  way n [] z y e l = subst (Step (at n)) e (step n z l)
  way n (m ∷ ms) z y e l = through (at n) (at m) (cycle_rows d ms) y (step n m l.0) (way m ms z y e l.1)

  rows_append : (xs ys : List ℕ) → cycle_rows d (xs ++ ys) ≡ cycle_rows d xs ++ cycle_rows d ys
  rows_append [] ys = refl
  rows_append (x ∷ xs) ys =
      ap (λ z. row_of (at x) ++ z) (rows_append xs ys) ∙ sym (append_assoc (row_of (at x)) (cycle_rows d xs) (cycle_rows d ys))

  nothing_after : (xs : List Key) → xs ++ [] ≡ xs
  nothing_after [] = refl
  nothing_after (x ∷ xs) = ap (λ z. x ∷ z) (nothing_after xs)

  no_read : (n m : ℕ) → at n ≡ node.Nothing → In m (graph n) → ⊥
  no_read n m e h = none_in (subst (In m) (graph_at n ∙ ap (node_row d) e) h)

  no_links : (n : ℕ) (ns : List ℕ) (z : ℕ) → at n ≡ node.Nothing → Links graph n ns z → ⊥
  no_links n [] z e l = no_read n z e l
  no_links n (m ∷ ms) z e l = no_read n m e l.0

  from_row : (n : ℕ) (ns : List ℕ) (x : Key) → at n ≡ node.Row x → Links graph n ns n → Links (reads d) x (cycle_rows d ns) x
  from_row n ns x e l = links_of x (cycle_rows d ns) x (subst (λ z. From (all_read z) (cycle_rows d ns) x) e (way n ns n x e l))

  two_wholes : (n m k j : ℕ) → at n ≡ node.Whole k → at m ≡ node.Whole j → In m (graph n) → ⊥
  two_wholes n m k j e f h =
      let s : Step (at n) (node.Whole j) = subst (Step (at n)) f (step n m h) in
      absurd (wrong (sym (ap is_whole e) ∙ s.0))
    where
      wrong : true ≡ false → ⊥
      wrong w = absurd (cc w)

  -- the second node of a cycle, where the first is a whole expression
  by_second : (n : ℕ) (k : ℕ) (m : ℕ) (ms : List ℕ) (b : Node) → at n ≡ node.Whole k → at m ≡ b → In m (graph n) → Links graph m ms n → Cycle (reads d) (row_of b ++ cycle_rows d ms)
  by_second n k m ms node.Nothing e f h l = absurd (no_links m ms n f l)
  by_second n k m ms (node.Whole j) e f h l = absurd (two_wholes n m k j e f h)
  by_second n k m ms (node.Row x) e f h l =
      let same = rows_append ms (n ∷ []) ∙ ap (λ z. cycle_rows d ms ++ (row_of z ++ [])) e ∙ nothing_after (cycle_rows d ms) in
      subst (λ z. Links (reads d) x z x) same (from_row m (ms ++ n ∷ []) x f (links_join graph m ms n [] m l h))

  by_first : (n : ℕ) (ns : List ℕ) (a : Node) → at n ≡ a → Links graph n ns n → Cycle (reads d) (row_of a ++ cycle_rows d ns)
  by_first n ns node.Nothing e l = absurd (no_links n ns n e l)
  by_first n ns (node.Row x) e l = from_row n ns x e l
  by_first n [] (node.Whole k) e l = absurd (two_wholes n n k k e e l)
  by_first n (m ∷ ms) (node.Whole k) e l = by_second n k m ms (at m) e refl l.0 l.1

  pub rows_cycle : (c : List ℕ) → Cycle graph c → Cycle (reads d) (cycle_rows d c)
  rows_cycle [] l = absurd l
  rows_cycle (n ∷ ns) l = by_first n ns (at n) refl l
