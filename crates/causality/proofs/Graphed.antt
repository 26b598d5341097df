-- The rows of the graph are there, and nodes of it.
use Rattle.std.specs.Prelude.{◌≡◌, refl, ℕ, zero, suc, ◌-◌, ◌<◌, ◌≤◌, Bool, true, false, List, [], ◌∷◌, ◌++◌, map, length, Option, Some, None, All, if◌then◌else◌}
use Rattle.std.proofs.Common.{ap, sym, subst, ◌∙◌, arith, drop}
use Rattle.std.proofs.lemmas.Grind.{common_steps}
use Rattle.std.proofs.lemmas.List.{length-map}
use Rattle.std.proofs.lemmas.List.Elements.{All-append, All-cons, All-nil}
use Rattle.ls_terms.specs.declared.clocks.ClockTerm.{ClockTerm, out-ClockTerm, out-roll-ClockTerm}
use Rattle.ls_terms.specs.declared.clocks.ClockTerm.TheOpen.{ClockTerm-F}
use Rattle.ls_terms.specs.declared.clocks.ClockTerm.TheVariants as clock
use Rattle.ls_places.specs.Clocks.{bare, bare_step}
use Rattle.ls_ast.specs.declared.tree.Pat.{Pat}
use Rattle.ls_places.specs.Patterns.{has_name, names_of}
use Rattle.ls_places.specs.Search.{clock_of_param, never, nth, param_clock, whole_at}
use Rattle.ls_places.specs.declared.definition.Definition.{Definition}
use Rattle.ls_places.specs.declared.definition.Key.{Key}
use Rattle.ls_places.specs.declared.places.Site.{Site}
use Rattle.ls_places.specs.declared.places.Whole.{Whole}
use Rattle.ls_sig.specs.declared.binder.Note.{Note}
use Rattle.place_tables.specs.Tables.{param_in}
use Rattle.causality_rules.specs.Reads.{clock_rows, place_rows, read_by, whole_rows}
use Rattle.causality.specs.Blocks.{whole_clock}
use Rattle.causality.specs.Nodes.{all_nodes, counts, key_node, total, whole_node}
use Rattle.causality.specs.Rows.{key_nodes, keys, node_row, rows, whole_nodes, wholes}
use Rattle.causality.specs.declared.nodes.Node.{Node}
use Rattle.causality.specs.declared.nodes.Node.TheVariants as node
use Rattle.causality.proofs.Known.{key_below, never_reads, nodes_long, pointwise, whole_below}

pub nothing_after : {A : Type 0} → (xs : List A) → xs ≡ xs ++ []
nothing_after [] = refl
nothing_after (x ∷ xs) = ap (λ z. x ∷ z) (nothing_after xs)

-- ---- whole expressions by their numbers

missing : (all : List (Whole Note)) (k : ℕ) → None ≡ nth all k → whole_at all k ≡ record { expr = never; place = [] }
missing [] k e = refl
missing (x ∷ xs) zero e = absurd (cc e)
missing (x ∷ xs) (suc k) e = missing xs k e

present : (all : List (Whole Note)) (k : ℕ) (w : Whole Note) → Some w ≡ nth all k → whole_at all k ≡ w
present [] k w e = absurd (cc e)
present (x ∷ xs) zero w e = the_some x w (sym e)
  where
    the_some : (a b : Whole Note) → Some a ≡ Some b → a ≡ b
    the_some a b e = cc e
present (x ∷ xs) (suc k) w e = present xs k w e

outside : out-ClockTerm clock.Pointwise ≡ ClockTerm-F.Pointwise
outside = ap out-ClockTerm (sym clock.rolls-Pointwise) ∙ out-roll-ClockTerm ClockTerm-F.Pointwise

bare_none : (n : ℕ) → bare n clock.Pointwise ≡ clock.Pointwise
bare_none zero = refl
bare_none (suc n) = ap (λ z. bare n (bare_step clock.Pointwise z)) outside ∙ bare_none n

module _ (d : Definition) where
  pub whole_missing : (k : ℕ) → None ≡ nth d.places.exprs k → whole_rows d k ≡ []
  whole_missing k e = ap (λ (w : Whole Note). place_rows w.place ++ read_by d w.expr) (missing d.places.exprs k e) ∙ never_reads d

  pub whole_present : (k : ℕ) (w : Whole Note) → Some w ≡ nth d.places.exprs k → whole_rows d k ≡ place_rows w.place ++ read_by d w.expr
  whole_present k w e = ap (λ (w : Whole Note). place_rows w.place ++ read_by d w.expr) (present d.places.exprs k w e)

  pub clock_missing : (s : Site) (k : ℕ) → None ≡ nth d.places.exprs k → whole_clock d s k ≡ []
  clock_missing s k e =
      ap (λ (w : Whole Note). clock_rows d (bare (length s.inner) w.expr.note.ck)) (missing d.places.exprs k e) ∙ ap (clock_rows d) (bare_none (length s.inner)) ∙ pointwise d

  pub clock_present : (s : Site) (k : ℕ) (w : Whole Note) → Some w ≡ nth d.places.exprs k → whole_clock d s k ≡ clock_rows d (bare (length s.inner) w.expr.note.ck)
  clock_present s k w e = ap (λ (w : Whole Note). clock_rows d (bare (length s.inner) w.expr.note.ck)) (present d.places.exprs k w e)

  -- ---- nodes

  abbrev n : ℕ
  n = total (counts d)

  abbrev Below : List ℕ → Type 0
  Below = All (λ y. y < n)

  keys_below : (ks : List Key) → Below (key_nodes d ks)
  keys_below [] = All-nil (λ y. y < n)
  keys_below (k ∷ ks) = All-cons (λ y. y < n) (key_node (counts d) k) (key_nodes d ks) (key_below (counts d) k) (keys_below ks)

  wholes_below : (ks : List ℕ) → Below (whole_nodes d ks)
  wholes_below [] = All-nil (λ y. y < n)
  wholes_below (k ∷ ks) = All-cons (λ y. y < n) (whole_node (counts d) k) (whole_nodes d ks) (whole_below (counts d) k) (wholes_below ks)

  row_below : (x : Node) → Below (node_row d x)
  row_below node.Nothing = All-nil (λ y. y < n)
  row_below (node.Row k) = All-append (λ y. y < n) (key_nodes d (keys d k)) (whole_nodes d (wholes d k)) (keys_below (keys d k)) (wholes_below (wholes d k))
  row_below (node.Whole k) = keys_below (whole_rows d k)

  -- what is pushed for a node are nodes
  pub row_within : (x : Node) (m : ℕ) (slice row : List ℕ) → m ≡ n → slice ≡ row → row ≡ node_row d x → All (λ y. y < m) slice
  row_within x m slice row e s r = subst (λ z. All (λ y. y < z) slice) (sym e) (subst Below (sym (s ∙ r)) (row_below x))

  pub rows_long : length (rows d) ≡ n
  rows_long = mapped (all_nodes (counts d)) ∙ nodes_long (counts d)
    where
      mapped : (ns : List Node) → length (map (node_row d) ns) ≡ length ns
      mapped ns = length-map ns (node_row d)

-- ---- the clock of the parameter that binds a name

abbrev at_param : List ClockTerm → ℕ → Option ℕ → Option ClockTerm
at_param ts k None = None
at_param ts k (Some j) = nth ts (j - k)

less_none : (k : ℕ) → k - k ≡ 0
less_none k = omega arith

less_one : (j k : ℕ) → suc k ≤ j → j - k ≡ suc (j - suc k)
less_one j k l = omega (arith, l)

bound_from : (x : ℕ) (ps : List Pat) (k j : ℕ) → param_in x ps k ≡ Some j → k ≤ j
bound_from x [] k j e = absurd (cc e)
bound_from x (p ∷ ps) k j e = by_name (has_name x (names_of p)) e (bound_from x ps (suc k) j)
  where
    number : Option ℕ → ℕ
    number None = 0
    number (Some v) = v

    by_name : (t : Bool) → (if t then Some k else param_in x ps (suc k)) ≡ Some j → (param_in x ps (suc k) ≡ Some j → suc k ≤ j) → k ≤ j
    by_name true e f = let s : k ≡ j = ap number e in omega (arith, s)
    by_name false e f = let l = f e in omega (arith, l)

no_clock : (ts : List ClockTerm) (o : Option ℕ) (k : ℕ) → ts ≡ [] → at_param ts k o ≡ None
no_clock ts None k e = refl
no_clock ts (Some j) k e = ap (λ z. nth z (j - k)) e

beyond : (t : ClockTerm) (ts : List ClockTerm) (k : ℕ) (o : Option ℕ) → ((j : ℕ) → o ≡ Some j → suc k ≤ j) → at_param (t ∷ ts) k o ≡ at_param ts (suc k) o
beyond t ts k None h = refl
beyond t ts k (Some j) h = ap (nth (t ∷ ts)) (less_one j k (h j refl))

clock_of : (x : ℕ) (ps : List Pat) (ts : List ClockTerm) (k : ℕ) → at_param ts k (param_in x ps k) ≡ param_clock x ps ts
clock_of x [] ts k = refl
clock_of x (p ∷ ps) [] k = no_clock [] (param_in x (p ∷ ps) k) k refl
clock_of x (p ∷ ps) (t ∷ ts) k = by_name (has_name x (names_of p)) (beyond t ts k (param_in x ps (suc k)) (bound_from x ps (suc k)) ∙ clock_of x ps ts (suc k))
  where
    by_name : (s : Bool) → at_param (t ∷ ts) k (param_in x ps (suc k)) ≡ param_clock x ps ts
        → at_param (t ∷ ts) k (if s then Some k else param_in x ps (suc k)) ≡ (if s then Some t else param_clock x ps ts)
    by_name true e = ap (nth (t ∷ ts)) (less_none k)
    by_name false e = e

pub no_param : (d : Definition) (x : ℕ) → None ≡ param_in x d.params 0 → None ≡ clock_of_param d x
no_param d x e = ap (at_param d.clocks 0) e ∙ clock_of x d.params d.clocks 0

pub some_param : (d : Definition) (x k : ℕ) → Some k ≡ param_in x d.params 0 → nth d.clocks k ≡ clock_of_param d x
some_param d x k e = ap (nth d.clocks) (omega arith) ∙ ap (at_param d.clocks 0) e ∙ clock_of x d.params d.clocks 0

-- all rows are there
ended : (f : Node → List ℕ) (all : List Node) (i : ℕ) → length all ≤ i → map f (drop i all) ≡ []
ended f all i l = ap (map f) (past all i l)
  where
    past : (all : List Node) (i : ℕ) → length all ≤ i → drop i all ≡ []
    past all i l = grind (arith, common_steps)

pub graph_long : (d : Definition) (nodes : List Node) (rs : List (List ℕ)) (i m : ℕ) → nodes ≡ all_nodes (counts d) → length nodes ≤ i → m ≡ total (counts d)
    → rs ++ map (node_row d) (drop i nodes) ≡ map (node_row d) nodes → length rs ≡ m
graph_long d nodes rs i m e l k so_far =
    ap (λ (z : List (List ℕ)). length z) (nothing_after rs ∙ ap (λ z. rs ++ z) (sym (ended (node_row d) nodes i l)) ∙ so_far ∙ ap (map (node_row d)) e) ∙ rows_long d ∙ sym k
