-- The number of each node: what stands there.
use Rattle.std.specs.Prelude.{◌≡◌, refl, ℕ, zero, suc, ◌+◌, ◌-◌, ◌<◌, ◌≤◌, ◌⊎◌, nat_lt, Bool, true, false, List, [], ◌∷◌, ◌++◌, map, length, None, if◌then◌else◌}
use Rattle.std.proofs.Common.{ap, sym, ◌∙◌, arith, inl, inr}
use Rattle.ls_value.specs.declared.leaf.Leaf.TheVariants as leaf
use Rattle.ls_ast.specs.declared.tree.Expr.{fold_out-Expr}
use Rattle.ls_ast.specs.declared.tree.Form.{Form, fold-Form, fold-roll-Form}
use Rattle.ls_ast.specs.declared.tree.Form.TheOpen.{Form-F}
use Rattle.ls_ast.specs.declared.tree.Form.TheVariants as form
use Rattle.ls_terms.specs.declared.clocks.ClockTerm.{fold-roll-ClockTerm}
use Rattle.ls_terms.specs.declared.clocks.ClockTerm.TheOpen.{ClockTerm-F}
use Rattle.ls_terms.specs.declared.clocks.ClockTerm.TheVariants as clock
use Rattle.ls_places.specs.Search.{count_up, never, nth, whole_at}
use Rattle.ls_places.specs.declared.definition.Definition.{Definition}
use Rattle.ls_places.specs.declared.definition.Key.{Key}
use Rattle.ls_places.specs.declared.definition.Key.TheVariants as key
use Rattle.ls_places.specs.declared.places.Whole.{Whole}
use Rattle.ls_sig.specs.declared.binder.Note.{Note}
use Rattle.causality_rules.specs.Reads as reads
use Rattle.causality_rules.specs.Reads.{Read, clock_rows, clock_rows_step, expr_rows, form_rows, place_rows, read_by, whole_rows}
use Rattle.causality.specs.declared.nodes.Node.{Node}
use Rattle.causality.specs.declared.nodes.Node.TheVariants as node
use Rattle.causality.specs.Nodes as own
use Rattle.causality.specs.Nodes.{Counts, all_nodes, counts, key_node, node_at, node_in, total, whole_node}

-- ---- lists of nodes, part by part

part_here : (f : ℕ → Node) (n a : ℕ) (rest : List Node) (k : ℕ) → k < n → node_in (map f (count_up n a) ++ rest) k ≡ f (a + k)
part_here f zero a rest k l = absurd (omega (arith, l))
part_here f (suc n) a rest zero l = let e : a ≡ a + 0 = omega arith in ap f e
part_here f (suc n) a rest (suc k) l = let e : suc a + k ≡ a + suc k = omega arith in part_here f n (suc a) rest k (omega (arith, l)) ∙ ap f e

part_past : (f : ℕ → Node) (n a : ℕ) (rest : List Node) (k : ℕ) → node_in (map f (count_up n a) ++ rest) (n + k) ≡ node_in rest k
part_past f zero a rest k = let e : 0 + k ≡ k = omega arith in ap (node_in rest) e
part_past f (suc n) a rest k = let e : suc n + k ≡ suc (n + k) = omega arith in
    ap (node_in (f a ∷ (map f (count_up n (suc a)) ++ rest))) e ∙ part_past f n (suc a) rest k

part_long : (f : ℕ → Node) (n a : ℕ) (rest : List Node) → length (map f (count_up n a) ++ rest) ≡ n + length rest
part_long f zero a rest = omega arith
part_long f (suc n) a rest = let e = part_long f n (suc a) rest in omega (arith, e)

last_here : (f : ℕ → Node) (n a k : ℕ) → k < n → node_in (map f (count_up n a)) k ≡ f (a + k)
last_here f zero a k l = absurd (omega (arith, l))
last_here f (suc n) a zero l = let e : a ≡ a + 0 = omega arith in ap f e
last_here f (suc n) a (suc k) l = let e : suc a + k ≡ a + suc k = omega arith in last_here f n (suc a) k (omega (arith, l)) ∙ ap f e

last_long : (f : ℕ → Node) (n a : ℕ) → length (map f (count_up n a)) ≡ n
last_long f zero a = refl
last_long f (suc n) a = ap suc (last_long f n (suc a))

is_less : (k n : ℕ) → nat_lt k n ≡ true → k < n
is_less k n e = grind (arith, e)

not_less : (k n : ℕ) → nat_lt k n ≡ false → n ≤ k
not_less k n e = grind (arith, e)

module _ (n : Counts) where
  abbrev wholes : List Node
  wholes = map own.whole_at (count_up n.exprs 0)

  abbrev resets : List Node
  resets = map own.reset_at (count_up n.resets 0) ++ wholes

  abbrev names : List Node
  names = map own.name_at (count_up n.names n.params) ++ resets

  abbrev starts : List Node
  starts = map own.start_at (count_up n.vars 0) ++ names

  abbrev vars : List Node
  vars = map own.var_at (count_up n.vars 0) ++ starts

  -- a place behind the first node
  behind : (x k : ℕ) → x ≡ suc k → node_at n x ≡ node_in vars k
  behind x k e = ap (node_at n) e

  none_more : (k : ℕ) → 0 + k ≡ k
  none_more k = omega arith

  pub var_there : (k : ℕ) → k < n.vars → node_at n (1 + k) ≡ node.Row (key.Var k)
  var_there k l = behind (1 + k) k (omega arith) ∙ part_here own.var_at n.vars 0 starts k l ∙ ap own.var_at (none_more k)

  pub start_there : (k : ℕ) → k < n.vars → node_at n (1 + n.vars + k) ≡ node.Row (key.Start k)
  start_there k l =
      behind (1 + n.vars + k) (n.vars + k) (omega arith) ∙ part_past own.var_at n.vars 0 starts k ∙ part_here own.start_at n.vars 0 names k l ∙ ap own.start_at (none_more k)

  pub name_there : (i : ℕ) → i < n.names → node_at n (1 + n.vars + n.vars + i) ≡ node.Row (key.Name (n.params + i))
  name_there i l =
      behind (1 + n.vars + n.vars + i) (n.vars + (n.vars + i)) (omega arith) ∙ part_past own.var_at n.vars 0 starts (n.vars + i) ∙ part_past own.start_at n.vars 0 names i
      ∙ part_here own.name_at n.names n.params resets i l

  pub reset_there : (r : ℕ) → r < n.resets → node_at n (1 + n.vars + n.vars + n.names + r) ≡ node.Row (key.Reset r)
  reset_there r l =
      behind (1 + n.vars + n.vars + n.names + r) (n.vars + (n.vars + (n.names + r))) (omega arith) ∙ part_past own.var_at n.vars 0 starts (n.vars + (n.names + r))
      ∙ part_past own.start_at n.vars 0 names (n.names + r) ∙ part_past own.name_at n.names n.params resets r ∙ part_here own.reset_at n.resets 0 wholes r l ∙ ap own.reset_at (none_more r)

  pub whole_there : (k : ℕ) → k < n.exprs → node_at n (1 + n.vars + n.vars + n.names + n.resets + k) ≡ node.Whole k
  whole_there k l =
      behind (1 + n.vars + n.vars + n.names + n.resets + k) (n.vars + (n.vars + (n.names + (n.resets + k)))) (omega arith)
      ∙ part_past own.var_at n.vars 0 starts (n.vars + (n.names + (n.resets + k))) ∙ part_past own.start_at n.vars 0 names (n.names + (n.resets + k))
      ∙ part_past own.name_at n.names n.params resets (n.resets + k) ∙ part_past own.reset_at n.resets 0 wholes k
      ∙ last_here own.whole_at n.exprs 0 k l ∙ ap own.whole_at (none_more k)

  pub nodes_long : length (all_nodes n) ≡ total n
  nodes_long =
      let a = part_long own.var_at n.vars 0 starts in
      let b = part_long own.start_at n.vars 0 names in
      let c = part_long own.name_at n.names n.params resets in
      let e = part_long own.reset_at n.resets 0 wholes in
      let f = last_long own.whole_at n.exprs 0 in
      omega (arith, a, b, c, e, f)

  if_below : (t : Bool) (c k v m : ℕ) → nat_lt k v ≡ t → (k < v → c < m) → 0 < m → (if t then c else 0) < m
  if_below true c k v m e f l = f (is_less k v e)
  if_below false c k v m e f l = l

  some : 0 < total n
  some = omega arith

  name_below : (t : Bool) (m : ℕ) → (if t then 0 else (if nat_lt (m - n.params) n.names then 1 + n.vars + n.vars + (m - n.params) else 0)) < total n
  name_below true m = some
  name_below false m = if_below (nat_lt (m - n.params) n.names) (1 + n.vars + n.vars + (m - n.params)) (m - n.params) n.names (total n) refl (λ l. omega (arith, l)) some

  pub key_below : (k : Key) → key_node n k < total n
  key_below (key.Var k) = if_below (nat_lt k n.vars) (1 + k) k n.vars (total n) refl (λ l. omega (arith, l)) some
  key_below (key.Start k) = if_below (nat_lt k n.vars) (1 + n.vars + k) k n.vars (total n) refl (λ l. omega (arith, l)) some
  key_below (key.Name m) = name_below (nat_lt m n.params) m
  key_below (key.Reset r) = if_below (nat_lt r n.resets) (1 + n.vars + n.vars + n.names + r) r n.resets (total n) refl (λ l. omega (arith, l)) some

  pub whole_below : (k : ℕ) → whole_node n k < total n
  whole_below k = if_below (nat_lt k n.exprs) (1 + n.vars + n.vars + n.names + n.resets + k) k n.exprs (total n) refl (λ l. omega (arith, l)) some

-- ---- what is not there reads nothing

pub nth_none : {A : Type 0} (xs : List A) (k : ℕ) → length xs ≤ k → nth xs k ≡ None
nth_none [] k l = refl
nth_none (x ∷ xs) zero l = absurd (omega (arith, l))
nth_none (x ∷ xs) (suc k) l = nth_none xs k (omega (arith, l))

module _ (d : Definition) where
  pub pointwise : clock_rows d clock.Pointwise ≡ []
  pointwise = ap (clock_rows d) (sym clock.rolls-Pointwise) ∙ fold-roll-ClockTerm (List Key) (clock_rows_step d) ClockTerm-F.Pointwise

  abbrev rows_of : Form Note → Note → List Key
  rows_of = fold-Form Note (Note → List Key) Read (form_rows d) (expr_rows d)

  pub never_reads : read_by d never ≡ []
  never_reads =
      ap (λ (r : Read). r.rows) (fold_out-Expr Note (Note → List Key) Read (form_rows d) (expr_rows d) never)
      ∙ ap (λ z. clock_rows d clock.Pointwise ++ z) (ap (λ (z : Note → List Key). z never.note)
      (ap rows_of (sym (form.rolls-Leaf leaf.Nil)) ∙ fold-roll-Form Note (Note → List Key) Read (form_rows d) (expr_rows d) (Form-F.Leaf leaf.Nil)))
      ∙ ap (λ z. z ++ []) pointwise

  whole_none : (all : List (Whole Note)) (k : ℕ) → length all ≤ k → whole_at all k ≡ record { expr = never; place = [] }
  whole_none [] k l = refl
  whole_none (x ∷ xs) zero l = absurd (omega (arith, l))
  whole_none (x ∷ xs) (suc k) l = whole_none xs k (omega (arith, l))

  pub no_whole : (k : ℕ) → length d.places.exprs ≤ k → whole_rows d k ≡ []
  no_whole k l = ap (λ (w : Whole Note). place_rows w.place ++ read_by d w.expr) (whole_none d.places.exprs k l) ∙ never_reads

  -- a row has its node, or is not there and reads nothing
  abbrev pub Known : Key → Type 0
  Known k = (node_at (counts d) (key_node (counts d) k) ≡ node.Row k) ⊎ ((key_node (counts d) k ≡ 0) × (reads.reads d k ≡ []))

  abbrev Placed : Key → ℕ → Type 0
  Placed k x = (node_at (counts d) x ≡ node.Row k) ⊎ ((x ≡ 0) × (reads.reads d k ≡ []))

  var_known : (k : ℕ) (t : Bool) → nat_lt k (length d.places.vars) ≡ t → Placed (key.Var k) (if t then 1 + k else 0)
  var_known k true e = inl (var_there (counts d) k (is_less k (length d.places.vars) e))
  var_known k false e = inr (refl, ap (reads.variable_rows d k) (nth_none d.places.vars k (not_less k (length d.places.vars) e)))

  start_known : (k : ℕ) (t : Bool) → nat_lt k (length d.places.vars) ≡ t → Placed (key.Start k) (if t then 1 + length d.places.vars + k else 0)
  start_known k true e = inl (start_there (counts d) k (is_less k (length d.places.vars) e))
  start_known k false e = inr (refl, ap (reads.initial_rows d) (nth_none d.places.vars k (not_less k (length d.places.vars) e)))

  abbrev first : ℕ
  first = length d.params

  abbrev named : ℕ → Bool → Bool → ℕ
  named m s t = if s then 0 else (if t then 1 + length d.places.vars + length d.places.vars + (m - first) else 0)

  name_known : (m : ℕ) (s t : Bool) → nat_lt m first ≡ s → nat_lt (m - first) (length d.places.names) ≡ t → Placed (key.Name m) (named m s t)
  name_known m true t e f = inr (refl, ap (λ z. if z then [] else reads.block_rows d m (nth d.places.names (m - first))) e)
  name_known m false true e f =
      let l = not_less m first e in
      let same : first + (m - first) ≡ m = omega (arith, l) in
      inl (name_there (counts d) (m - first) (is_less (m - first) (length d.places.names) f) ∙ ap (λ z. node.Row (key.Name z)) same)
  name_known m false false e f =
      inr (
        refl,
        ap (λ z. if z then [] else reads.block_rows d m (nth d.places.names (m - first))) e
            ∙ ap (reads.block_rows d m) (nth_none d.places.names (m - first) (not_less (m - first) (length d.places.names) f)),
      )

  reset_known : (r : ℕ) (t : Bool) → nat_lt r (length d.places.resets) ≡ t
      → Placed (key.Reset r) (if t then 1 + length d.places.vars + length d.places.vars + length d.places.names + r else 0)
  reset_known r true e = inl (reset_there (counts d) r (is_less r (length d.places.resets) e))
  reset_known r false e = inr (refl, ap (reads.condition_rows d) (nth_none d.places.resets r (not_less r (length d.places.resets) e)))

  pub known : (k : Key) → Known k
  known (key.Var k) = var_known k (nat_lt k (length d.places.vars)) refl
  known (key.Start k) = start_known k (nat_lt k (length d.places.vars)) refl
  known (key.Name m) = name_known m (nat_lt m first) (nat_lt (m - first) (length d.places.names)) refl refl
  known (key.Reset r) = reset_known r (nat_lt r (length d.places.resets)) refl

  abbrev pub KnownWhole : ℕ → Type 0
  KnownWhole k = (node_at (counts d) (whole_node (counts d) k) ≡ node.Whole k) ⊎ ((whole_node (counts d) k ≡ 0) × (whole_rows d k ≡ []))

  whole_by : (k : ℕ) (t : Bool) → nat_lt k (length d.places.exprs) ≡ t
      → let x = if t then 1 + length d.places.vars + length d.places.vars + length d.places.names + length d.places.resets + k else 0 in
      (node_at (counts d) x ≡ node.Whole k) ⊎ ((x ≡ 0) × (whole_rows d k ≡ []))
  whole_by k true e = inl (whole_there (counts d) k (is_less k (length d.places.exprs) e))
  whole_by k false e = inr (refl, no_whole k (not_less k (length d.places.exprs) e))

  pub known_whole : (k : ℕ) → KnownWhole k
  known_whole k = whole_by k (nat_lt k (length d.places.exprs)) refl
