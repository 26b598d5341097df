-- The items of a body with their rows; each row that reads, but the condition of a `reset`, is that of an item.
use Rattle.std.specs.Prelude.{◌≡◌, refl, ℕ, zero, suc, ◌+◌, ◌-◌, ◌<◌, ◌⊎◌, nat_lt, Bool, true, false, List, [], ◌∷◌, ◌++◌, map, length, Option, Some, None, if◌then◌else◌}
use Rattle.std.proofs.Common.{ap, sym, subst, ◌∙◌, append_assoc, arith, inl, inr}
use Rattle.std.proofs.lemmas.List.{length-append, map-append}
use Rattle.ls_places.specs.Patterns.{joined}
use Rattle.ls_places.specs.Places.{Place}
use Rattle.ls_places.specs.Search.{count_up, nth, start_of}
use Rattle.ls_places.specs.declared.definition.Definition.{Definition}
use Rattle.ls_places.specs.declared.definition.Key.{Key}
use Rattle.ls_places.specs.declared.definition.Key.TheVariants as key
use Rattle.ls_places.specs.declared.places.Named.{Named}
use Rattle.ls_places.specs.declared.places.Named.TheVariants as named
use Rattle.ls_places.specs.declared.places.Start.{Start}
use Rattle.ls_places.specs.declared.places.Transition.{Transition}
use Rattle.ls_places.specs.declared.places.Variable.{Variable}
use Rattle.ls_sig.specs.declared.sigs.Item.{Item}
use Rattle.ls_sig.specs.declared.sigs.Item.TheVariants as item
use Rattle.digraph.specs.Graph.{In, first, later}
use Rattle.digraph.proofs.Marks.{none_in, in_left, in_right}
use Rattle.causality_rules.specs.Items.{block_at, block_items, initial_item, initial_items, is_block, is_condition, items, key_of}
use Rattle.causality_rules.specs.Laws.{ModesPaired}
use Rattle.causality_rules.specs.Reads as reads
use Rattle.causality.specs.Items as own
use Rattle.causality.proofs.Lists.{in_count, in_joined, in_map}

-- ---- blocks by their numbers

abbrev blocks : List Named → ℕ
blocks [] = 0
blocks (n ∷ ns) = if is_block n then suc (blocks ns) else blocks ns

over_block : (b : ℕ) (n : Named) (ns : List Named) → is_block n ≡ true → block_at (suc b) (n ∷ ns) ≡ suc (block_at b ns)
over_block b n ns e = ap (λ z. suc (block_at (if z then b else suc b) ns)) e

over_other : (b : ℕ) (n : Named) (ns : List Named) → is_block n ≡ false → block_at b (n ∷ ns) ≡ suc (block_at b ns)
over_other zero n ns e = ap (λ z. if z then 0 else suc (block_at zero ns)) e
over_other (suc b) n ns e = ap (λ z. suc (block_at (if z then b else suc b) ns)) e

over_one : (n : Named) (pre ns : List Named) (t : Bool) → is_block n ≡ t → block_at (blocks pre) (pre ++ ns) ≡ length pre
    → block_at (if t then suc (blocks pre) else blocks pre) (n ∷ (pre ++ ns)) ≡ suc (length pre)
over_one n pre ns true e h = over_block (blocks pre) n (pre ++ ns) e ∙ ap suc h
over_one n pre ns false e h = over_other (blocks pre) n (pre ++ ns) e ∙ ap suc h

-- a block stands behind those before it
block_here : (pre : List Named) (n : Named) (ns : List Named) → is_block n ≡ true → block_at (blocks pre) (pre ++ n ∷ ns) ≡ length pre
block_here [] n ns e = ap (λ z. if z then 0 else suc (block_at zero ns)) e
block_here (x ∷ pre) n ns e = over_one x pre (n ∷ ns) (is_block x) refl (block_here pre n ns e)

one_more : (x n : Named) (xs : List Named) (t : Bool) → (if t then suc (own.one_block (blocks xs) n) else own.one_block (blocks xs) n) ≡ own.one_block (if t then suc (blocks xs) else blocks xs) n
one_more x n xs false = refl
one_more x n xs true = by_kind (is_block n)
  where
    by_kind : (c : Bool) → suc (if c then suc (blocks xs) else blocks xs) ≡ (if c then suc (suc (blocks xs)) else suc (blocks xs))
    by_kind true = refl
    by_kind false = refl

blocks_more : (xs : List Named) (n : Named) → blocks (xs ++ n ∷ []) ≡ own.one_block (blocks xs) n
blocks_more [] n = refl
blocks_more (x ∷ xs) n = ap (λ z. if is_block x then suc z else z) (blocks_more xs n) ∙ one_more x n xs (is_block x)

length_more : (xs : List Named) (n : Named) (p : ℕ) → suc (p + length xs) ≡ p + length (xs ++ n ∷ [])
length_more xs n p = let e = length-append xs (n ∷ []) in omega (arith, e)

module _ (d : Definition) where
  abbrev p : ℕ
  p = length d.params

  abbrev W : List Item → List own.Rowed
  W = map {A = Item} {B = own.Rowed} (own.with_row d)

  name_is : (pre : List Named) (n : Named) (ns : List Named) (m b : ℕ) → d.places.names ≡ pre ++ n ∷ ns → is_block n ≡ true → m ≡ p + length pre → b ≡ blocks pre
      → m ≡ p + block_at b d.places.names
  name_is pre n ns m b e t f g = f ∙ ap (λ z. p + z) (sym (ap (block_at b) e ∙ ap (λ z. block_at z (pre ++ n ∷ ns)) g ∙ block_here pre n ns t))

  add_one : (m : ℕ) → m + 1 ≡ suc m
  add_one m = omega arith

  named_are : (pre : List Named) (n : Named) (ns : List Named) (m b : ℕ) → d.places.names ≡ pre ++ n ∷ ns → m ≡ p + length pre → b ≡ blocks pre
      → W (block_items (own.one_block b n) ns) ≡ own.block_rows (suc m) (own.one_block b n) ns
      → W (block_items b (n ∷ ns)) ≡ own.block_rows m b (n ∷ ns)
  named_are pre (named.Clock x) ns m b e f g rest = rest
  named_are pre (named.Match k all q) ns m b e f g rest =
      ap (λ z. (item.Selector b, key.Name z) ∷ W (block_items (suc b) ns)) (sym (name_is pre (named.Match k all q) ns m b e refl f g)) ∙ ap (λ z. (item.Selector b, key.Name m) ∷ z) rest
  named_are pre (named.Present xs q) ns m b e f g rest =
      ap (λ z. (item.Selector b, key.Name z) ∷ W (block_items (suc b) ns)) (sym (name_is pre (named.Present xs q) ns m b e refl f g)) ∙ ap (λ z. (item.Selector b, key.Name m) ∷ z) rest
  named_are pre (named.Active s q) ns m b e f g rest =
      ap (λ z. (item.Active b, key.Name z) ∷ (item.Tested b, key.Name (suc z)) ∷ W (block_items (suc b) ns)) (sym (name_is pre (named.Active s q) ns m b e refl f g))
      ∙ ap (λ z. (item.Active b, key.Name m) ∷ (item.Tested b, key.Name z) ∷ W (block_items (suc b) ns)) (sym (add_one m))
      ∙ ap (λ z. (item.Active b, key.Name m) ∷ (item.Tested b, key.Name (m + 1)) ∷ z) rest
  named_are pre (named.Tested s q) ns m b e f g rest = rest

  blocks_are : (pre ns : List Named) (m b : ℕ) → d.places.names ≡ pre ++ ns → m ≡ p + length pre → b ≡ blocks pre → W (block_items b ns) ≡ own.block_rows m b ns
  blocks_are pre [] m b e f g = refl
  blocks_are pre (n ∷ ns) m b e f g =
      named_are pre n ns m b e f g (blocks_are (pre ++ n ∷ []) ns (suc m) (own.one_block b n) (e ∙ sym (append_assoc pre (n ∷ []) ns)) (ap suc f ∙ length_more pre n p)
      (ap (λ z. own.one_block z n) g ∙ sym (blocks_more pre n)))

  vars_are : (ks : List ℕ) → W (map {A = ℕ} {B = Item} item.Var ks) ≡ map {A = ℕ} {B = own.Rowed} own.var_row ks
  vars_are [] = refl
  vars_are (k ∷ ks) = ap (λ z. own.var_row k ∷ z) (vars_are ks)

  initial_is : (k : ℕ) (o : Option Start) → W (initial_item k o) ≡ own.initial_row k o
  initial_is k None = refl
  initial_is k (Some s) = refl

  initial_of : (k : ℕ) (o : Option Variable) → W (initial_items d k o) ≡ own.initial_row_of d k o
  initial_of k None = refl
  initial_of k (Some w) = initial_is k (start_of w d.places.starts)

  initials_are : (ks : List ℕ) → W (joined (map (λ k. initial_items d k (nth d.places.vars k)) ks)) ≡ joined (map (own.initial_row_at d) ks)
  initials_are [] = refl
  initials_are (k ∷ ks) =
      let rest = joined (map (λ j. initial_items d j (nth d.places.vars j)) ks) in
      map-append (own.with_row d) (initial_items d k (nth d.places.vars k)) rest
      ∙ ap (λ z. z ++ W rest) (initial_of k (nth d.places.vars k)) ∙ ap (λ z. own.initial_row_at d k ++ z) (initials_are ks)

  -- the items of the three kinds
  pub items_are : own.item_rows d ≡ own.var_rows d ++ (own.initial_rows d ++ own.block_rows p 0 d.places.names)
  items_are =
      let ks = count_up (length d.places.vars) 0 in
      let vs = map {A = ℕ} {B = Item} item.Var ks in
      let is = joined (map (λ k. initial_items d k (nth d.places.vars k)) ks) in
      let bs = block_items 0 d.places.names in
      let none : p ≡ p + 0 = omega arith in
      map-append (own.with_row d) vs (is ++ bs) ∙ ap (λ z. z ++ W (is ++ bs)) (vars_are ks)
      ∙ ap (λ z. own.var_rows d ++ z) (map-append (own.with_row d) is bs ∙ ap (λ z. z ++ W bs) (initials_are ks)
      ∙ ap (λ z. own.initial_rows d ++ z) (blocks_are [] d.places.names p 0 refl none refl))

  -- ---- a row that reads is that of an item

  abbrev HasItem : Key → Type 0
  HasItem k = (i : Item) × In i (items d) × (key_of d i ≡ k)

  abbrev ks : List ℕ
  ks = count_up (length d.places.vars) 0

  abbrev initials : List Item
  initials = joined (map (λ k. initial_items d k (nth d.places.vars k)) ks)

  there : {A : Type 0} (xs : List A) (k : ℕ) (x : A) → nth xs k ≡ Some x → k < length xs
  there [] k x e = absurd (cc e)
  there (y ∷ xs) zero x e = omega arith
  there (y ∷ xs) (suc k) x e = let l = there xs k x e in omega (arith, l)

  var_item : (k : ℕ) (o : Option Variable) → nth d.places.vars k ≡ o → (y : Key) → In y (reads.variable_rows d k o) → HasItem (key.Var k)
  var_item k None e y h = absurd (none_in h)
  var_item k (Some w) e y h = (
    item.Var k,
    in_left (item.Var k) (map item.Var ks) (initials ++ block_items 0 d.places.names) (in_map item.Var k ks (in_count (length d.places.vars) k (there d.places.vars k w e))),
    refl,
  )

  start_item : (k : ℕ) (w : Variable) (o : Option Start) → nth d.places.vars k ≡ Some w → start_of w d.places.starts ≡ o → (y : Key) → In y (reads.start_of_rows d w.place o)
      → In (item.Initial k) (initial_items d k (nth d.places.vars k))
  start_item k w None e f y h = absurd (none_in h)
  start_item k w (Some s) e f y h = subst (λ o. In (item.Initial k) (initial_items d k o)) (sym e) (subst (λ o. In (item.Initial k) (initial_item k o)) (sym f) (first []))

  initial_item_of : (k : ℕ) (o : Option Variable) → nth d.places.vars k ≡ o → (y : Key) → In y (reads.initial_rows d o) → HasItem (key.Start k)
  initial_item_of k None e y h = absurd (none_in h)
  initial_item_of k (Some w) e y h = (
    item.Initial k,
    in_right (item.Initial k) (map item.Var ks) (initials ++ block_items 0 d.places.names)
        (in_left (item.Initial k) initials (block_items 0 d.places.names)
        (in_joined (λ j. initial_items d j (nth d.places.vars j)) k (item.Initial k) ks (in_count (length d.places.vars) k (there d.places.vars k w e))
        (start_item k w (start_of w d.places.starts) e refl y h))),
    refl,
  )

  -- the clock names before one, and those after it
  parted : (xs : List Named) (i : ℕ) (n : Named) → nth xs i ≡ Some n → (pre : List Named) × (post : List Named) × (xs ≡ pre ++ n ∷ post) × (i ≡ length pre)
  parted [] i n e = absurd (cc e)
  parted (x ∷ xs) zero n e = ([], xs, ap (λ z. z ∷ xs) (the_some x n e), refl)
    where
      the_some : (a b : Named) → Some a ≡ Some b → a ≡ b
      the_some a b e = cc e
  parted (x ∷ xs) (suc i) n e = let r = parted xs i n e in (x ∷ r.0, r.1, ap (λ z. x ∷ z) r.2, ap suc r.3)

  plus_one : (b c : ℕ) → b + suc c ≡ suc b + c
  plus_one b c = omega arith

  -- items behind some clock names
  behind : (pre rest : List Named) (b : ℕ) (i : Item) → In i (block_items (b + blocks pre) rest) → In i (block_items b (pre ++ rest))
  behind [] rest b i h = let e : b + 0 ≡ b = omega arith in subst (λ z. In i (block_items z rest)) e h
  behind (named.Clock x ∷ pre) rest b i h = behind pre rest b i h
  behind (named.Match e all q ∷ pre) rest b i h =
      later (item.Selector b) (block_items (suc b) (pre ++ rest)) (behind pre rest (suc b) i (subst (λ z. In i (block_items z rest)) (plus_one b (blocks pre)) h))
  behind (named.Present xs q ∷ pre) rest b i h =
      later (item.Selector b) (block_items (suc b) (pre ++ rest)) (behind pre rest (suc b) i (subst (λ z. In i (block_items z rest)) (plus_one b (blocks pre)) h))
  behind (named.Active s q ∷ pre) rest b i h =
      later (item.Active b) (item.Tested b ∷ block_items (suc b) (pre ++ rest))
      (later (item.Tested b) (block_items (suc b) (pre ++ rest)) (behind pre rest (suc b) i (subst (λ z. In i (block_items z rest)) (plus_one b (blocks pre)) h)))
  behind (named.Tested s q ∷ pre) rest b i h = behind pre rest b i h

  in_blocks : (pre rest : List Named) (i : Item) → d.places.names ≡ pre ++ rest → In i (block_items (blocks pre) rest) → In i (items d)
  in_blocks pre rest i e h =
      let none : blocks pre ≡ 0 + blocks pre = omega arith in
      in_right i (map item.Var ks) (initials ++ block_items 0 d.places.names) (in_right i initials (block_items 0 d.places.names)
      (subst (λ z. In i (block_items 0 z)) (sym e) (behind pre rest 0 i (subst (λ z. In i (block_items z rest)) none h))))

  block_key : (pre : List Named) (n : Named) (post : List Named) (i m : ℕ) → d.places.names ≡ pre ++ n ∷ post → is_block n ≡ true → i ≡ length pre → p + i ≡ m
      → p + block_at (blocks pre) d.places.names ≡ m
  block_key pre n post i m e t l f = ap (λ z. p + z) (ap (block_at (blocks pre)) e ∙ block_here pre n post t ∙ sym l) ∙ f

  -- the active row before a tested row
  abbrev Ends : List Named → Type 0
  Ends pre = (before : List Named) × (states : List (ℕ × List Transition)) × (q : Place) × (pre ≡ before ++ named.Active states q ∷ [])

  longer : (x : Named) (pre : List Named) → Ends pre → Ends (x ∷ pre)
  longer x pre r = (x ∷ r.0, r.1, r.2, ap (λ z. x ∷ z) r.3)

  abbrev Before : Bool → List Named → Type 0
  Before t pre = ((t ≡ true) × (pre ≡ [])) ⊎ Ends pre

  closed : (x : Named) (pre : List Named) → Before false pre → Ends (x ∷ pre)
  closed x pre (inl h) = absurd (cc (h.0))
  closed x pre (inr r) = longer x pre r

  active : (s : List (ℕ × List Transition)) (q : Place) (pre : List Named) → Before true pre → Ends (named.Active s q ∷ pre)
  active s q pre (inl h) = ([], s, q, ap (λ z. named.Active s q ∷ z) h.1)
  active s q pre (inr r) = longer (named.Active s q) pre r

  before : (t : Bool) (pre : List Named) (s : List (ℕ × List Transition)) (q : Place) (post : List Named) → ModesPaired t (pre ++ named.Tested s q ∷ post) → Before t pre
  before true [] s q post h = inl (refl, refl)
  before false [] s q post h = absurd h
  before false (named.Clock x ∷ pre) s q post h = inr (closed (named.Clock x) pre (before false pre s q post h))
  before false (named.Match e all r ∷ pre) s q post h = inr (closed (named.Match e all r) pre (before false pre s q post h))
  before false (named.Present xs r ∷ pre) s q post h = inr (closed (named.Present xs r) pre (before false pre s q post h))
  before false (named.Active z r ∷ pre) s q post h = inr (active z r pre (before true pre s q post h))
  before false (named.Tested z r ∷ pre) s q post h = absurd h
  before true (named.Clock x ∷ pre) s q post h = absurd h
  before true (named.Match e all r ∷ pre) s q post h = absurd h
  before true (named.Present xs r ∷ pre) s q post h = absurd h
  before true (named.Active z r ∷ pre) s q post h = absurd h
  before true (named.Tested z r ∷ pre) s q post h = inr (closed (named.Tested z r) pre (before false pre s q post h))

  ends_of : (pre : List Named) → Before false pre → Ends pre
  ends_of pre (inl h) = absurd (cc (h.0))
  ends_of pre (inr r) = r

  tested_item : (pre : List Named) (s : List (ℕ × List Transition)) (q : Place) (post : List Named) (i m : ℕ) → ModesPaired false d.places.names
      → d.places.names ≡ pre ++ named.Tested s q ∷ post → i ≡ length pre → p + i ≡ m → HasItem (key.Name m)
  tested_item pre s q post i m paired e l f =
      let r = ends_of pre (before false pre s q post (subst (ModesPaired false) e paired)) in
      let a = named.Active r.1 r.2 in
      let whole = e ∙ ap (λ z. z ++ named.Tested s q ∷ post) r.3 ∙ append_assoc r.0 (a ∷ []) (named.Tested s q ∷ post) in
      let long = ap (λ (z : List Named). length z) r.3 ∙ length-append r.0 (a ∷ []) in
      let b = blocks r.0 in
      let at = ap (λ z. p + z) (ap (block_at b) whole ∙ block_here r.0 a (named.Tested s q ∷ post) refl) in
      let same : suc (p + block_at b d.places.names) ≡ m = omega (arith, at, long, l, f) in (
        item.Tested b,
        in_blocks r.0 (a ∷ named.Tested s q ∷ post) (item.Tested b) whole (later (item.Active b) _ (first _)),
        ap key.Name same,
      )

  name_item : (i m : ℕ) (o : Option Named) → ModesPaired false d.places.names → nth d.places.names i ≡ o → p + i ≡ m → (y : Key) → In y (reads.block_rows d m o) → HasItem (key.Name m)
  name_item i m None paired e f y h = absurd (none_in h)
  name_item i m (Some (named.Clock x)) paired e f y h = absurd (none_in h)
  name_item i m (Some (named.Match k all q)) paired e f y h =
      let n = named.Match k all q in
      let r = parted d.places.names i n e in
      let b = blocks r.0 in
      (item.Selector b, in_blocks r.0 (n ∷ r.1) (item.Selector b) r.2 (first _), ap key.Name (block_key r.0 n r.1 i m r.2 refl r.3 f))
  name_item i m (Some (named.Present xs q)) paired e f y h =
      let n = named.Present xs q in
      let r = parted d.places.names i n e in
      let b = blocks r.0 in
      (item.Selector b, in_blocks r.0 (n ∷ r.1) (item.Selector b) r.2 (first _), ap key.Name (block_key r.0 n r.1 i m r.2 refl r.3 f))
  name_item i m (Some (named.Active s q)) paired e f y h =
      let n = named.Active s q in
      let r = parted d.places.names i n e in
      let b = blocks r.0 in
      (item.Active b, in_blocks r.0 (n ∷ r.1) (item.Active b) r.2 (first _), ap key.Name (block_key r.0 n r.1 i m r.2 refl r.3 f))
  name_item i m (Some (named.Tested s q)) paired e f y h =
      let r = parted d.places.names i (named.Tested s q) e in
      tested_item r.0 s q r.1 i m paired r.2 r.3 f

  some_name : (m : ℕ) (t : Bool) → ModesPaired false d.places.names → nat_lt m p ≡ t → (y : Key) → In y (if t then [] else reads.block_rows d m (nth d.places.names (m - p))) → HasItem (key.Name m)
  some_name m true paired e y h = absurd (none_in h)
  some_name m false paired e y h = name_item (m - p) m (nth d.places.names (m - p)) paired refl (at_least m p e) y h
    where
      at_least : (m p : ℕ) → nat_lt m p ≡ false → p + (m - p) ≡ m
      at_least m p e = grind (arith, e)

  pub has_item : ModesPaired false d.places.names → (k y : Key) → is_condition k ≡ false → In y (reads.reads d k) → HasItem k
  has_item paired (key.Var k) y c h = var_item k (nth d.places.vars k) refl y h
  has_item paired (key.Start k) y c h = initial_item_of k (nth d.places.vars k) refl y h
  has_item paired (key.Name m) y c h = some_name m (nat_lt m p) paired refl y h
  has_item paired (key.Reset r) y c h = absurd (cc c)
