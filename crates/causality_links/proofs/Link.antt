-- What the model reads at once is read by the rules of causality, or stands around.
use Rattle.std.specs.Prelude.{◌≡◌, refl, ℕ, ◌⊎◌, List, [], ◌∷◌, ◌++◌, map, Option, Some, None}
use Rattle.std.proofs.Common.{subst, inl, inr}
use Rattle.ls_ast.specs.declared.tree.Case.{Case}
use Rattle.ls_ast.specs.declared.tree.Expr.{Expr-F}
use Rattle.ls_ast.specs.declared.tree.Form.TheOpen.{Form-F}
use Rattle.ls_terms.specs.declared.clocks.ClockTerm.{ClockTerm}
use Rattle.ls_places.specs.Places.{Place, arms}
use Rattle.ls_sig.specs.declared.binder.Binder.{Binder}
use Rattle.ls_sig.specs.declared.binder.Binder.TheVariants as b
use Rattle.ls_sig.specs.declared.binder.Note.{Note}
use Rattle.ls_places.specs.declared.places.Frame.TheVariants as frame
use Rattle.ls_places.specs.declared.places.Variable.{Variable}
use Rattle.ls_places.specs.declared.places.Start.{Start}
use Rattle.ls_places.specs.declared.definition.Key.{Key}
use Rattle.ls_places.specs.declared.definition.Key.TheVariants as key
use Rattle.ls_places.specs.declared.definition.Definition.{Definition}
use Rattle.ls_places.specs.Clocks.{choice_parts}
use Rattle.ls_places.specs.Search.{E, nth, start_of}
use Rattle.kahn_model.specs.Reads
use Rattle.kahn_model.specs.Reads.{Shape, Needs, Formed, Reading, together, earlier, nothing, now_only, all_needs, every_needs, clocks_read, bound_keys, arm_keys, around_keys, start_keys}
use Rattle.tree_notes.proofs.Related
use Rattle.tree_notes.proofs.Refold.{in_choices}
use Rattle.tree_notes.proofs.Related.{related}
use Rattle.digraph.specs.Graph.{In, first, later}
use Rattle.causality_rules.specs.Reads as rules
use Rattle.causality_rules.specs.Reads.{Read, all_read, every_read, place_rows, reset_rows, restart_rows, bound_rows, start_rows}
use Rattle.causality_links.specs.Close as close
use Rattle.causality_links.specs.Close.{Sub, Wide, Two, all_wide, every_wide, of_wide, both_read}
use Rattle.causality_links.proofs.Lists.{none_in, in_cons, in_left, in_right, in_split, Or, or_none, or_append, or_both, or_same}
use Rattle.causality_links.proofs.ClockReads.{clock_split}

-- ---- expressions

abbrev pub Into : List Key → Two → Type 0
Into xs t = Or xs t.rows t.more

pub into_none : (t : Two) → Into [] t
into_none t = or_none t.rows t.more

pub into_left : (xs : List Key) (t u : Two) → Into xs t → Into xs (both_read t u)
into_left xs t u f l h = elim (f l h) [ inl c ↦ inl (in_left l t.rows u.rows c) | inr c ↦ inr (in_left l t.more u.more c) ]

pub into_right : (xs : List Key) (t u : Two) → Into xs u → Into xs (both_read t u)
into_right xs t u f l h = elim (f l h) [ inl c ↦ inl (in_right l t.rows u.rows c) | inr c ↦ inr (in_right l t.more u.more c) ]

pub into_both : (xs ys : List Key) (t : Two) → Into xs t → Into ys t → Into (xs ++ ys) t
into_both xs ys t f g = or_both xs ys t.rows t.more f g

pub into_pair : (xs ys : List Key) (t u : Two) → Into xs t → Into ys u → Into (xs ++ ys) (both_read t u)
into_pair xs ys t u f g = or_append xs t.rows t.more ys u.rows u.more f g

-- one more list in the middle
middle : (l : Key) (xs ys zs : List Key) → In l (xs ++ zs) → In l (xs ++ (ys ++ zs))
middle l xs ys zs h = elim (in_split l xs zs h) [ inl a ↦ in_left l xs (ys ++ zs) a | inr a ↦ in_right l xs (ys ++ zs) (in_right l ys zs a) ]

inner : (l : Key) (xs ys zs us : List Key) → In l (xs ++ zs) → In l (xs ++ (ys ++ (zs ++ us)))
inner l xs ys zs us h = elim (in_split l xs zs h) [
  | inl a ↦ in_left l xs (ys ++ (zs ++ us)) a
  | inr a ↦ in_right l xs (ys ++ (zs ++ us)) (in_right l ys (zs ++ us) (in_left l zs us a))
]

module _ (d : Definition) (shapes : List Shape) where
  abbrev pub clock_two : ClockTerm → Two
  clock_two ck = record { rows = rules.clock_rows d ck; more = close.clock_more d ck }

  abbrev keys : ClockTerm → List Key
  keys = Reads.clock_keys d shapes

  clock_into : (ck : ClockTerm) → Into (keys ck) (clock_two ck)
  clock_into ck = clock_split d shapes ck

  abbrev pub Holds : Reading → Wide → Type 0
  Holds r w = (r.note ≡ w.note) × Into r.needs.now (of_wide w) × Into (keys r.note.ck) (of_wide w)

  abbrev HoldsF : (Note → Formed) → (Note → Two) → Type 0
  HoldsF f g = (n : Note) → Into (f n).needs.now (both_read (clock_two n.ck) (g n))

  abbrev TwoF : Type 0
  TwoF = (f : Note → Formed) × (g : Note → Two) × HoldsF f g

  abbrev TwoS : Type 0
  TwoS = (r : Reading) × (w : Wide) × Holds r w

  abbrev rs : List TwoS → List Reading
  rs = map {A = TwoS} {B = Reading} (λ p. p.0)

  abbrev ws : List TwoS → List Wide
  ws = map {A = TwoS} {B = Wide} (λ p. p.1)

  all_into : (ps : List TwoS) → Into (all_needs (rs ps)).now (all_wide (ws ps))
  all_into [] = into_none close.nothing_read
  all_into (p ∷ ps) = into_pair p.0.needs.now (all_needs (rs ps)).now (of_wide p.1) (all_wide (ws ps)) p.2.1 (all_into ps)

  choices_into : (cs : List (Case × TwoS)) → Into (all_needs (choice_parts (in_choices {X = TwoS} {Y = Reading} (λ p. p.0) cs))).now
      (all_wide (choice_parts (in_choices {X = TwoS} {Y = Wide} (λ p. p.1) cs)))
  choices_into [] = into_none close.nothing_read
  choices_into (c ∷ cs) = into_pair c.1.0.needs.now (all_needs (choice_parts (in_choices {X = TwoS} {Y = Reading} (λ p. p.0) cs))).now (of_wide c.1.1)
      (all_wide (choice_parts (in_choices {X = TwoS} {Y = Wide} (λ p. p.1) cs))) c.1.2.1 (choices_into cs)

  bound_into : (bound : Binder) → Into (bound_keys bound) (close.rows_alone (bound_rows bound))
  bound_into (b.Var k) = or_same (key.Var k ∷ [])
  bound_into (b.Def k) = into_none (close.rows_alone [])
  bound_into (b.Param k) = into_none (close.rows_alone [])
  bound_into b.Nothing = into_none (close.rows_alone [])
  bound_into (b.Case c k) = into_none (close.rows_alone [])

  -- the clocks of the arguments, and that of the call
  clocks_into : (ck : ClockTerm) (ps : List TwoS) → Into (Reads.clocks_keys d shapes (clocks_read (rs ps) ++ ck ∷ [])) (both_read (clock_two ck) (all_wide (ws ps)))
  clocks_into ck [] l h = into_left (keys ck ++ []) (clock_two ck) close.nothing_read (into_both (keys ck) [] (clock_two ck) (clock_into ck) (into_none (clock_two ck))) l h
  clocks_into ck (p ∷ ps) l h = elim (in_split l (keys p.0.note.ck) (Reads.clocks_keys d shapes (clocks_read (rs ps) ++ ck ∷ [])) h) [
    | inl a ↦ into_right (keys p.0.note.ck) (clock_two ck) (both_read (of_wide p.1) (all_wide (ws ps))) (into_left (keys p.0.note.ck) (of_wide p.1) (all_wide (ws ps)) p.2.2) l a
    | inr a ↦ between l (clocks_into ck ps l a)
  ]
    where
      between : (l : Key) → In l (both_read (clock_two ck) (all_wide (ws ps))).rows ⊎ In l (both_read (clock_two ck) (all_wide (ws ps))).more
          → In l (both_read (clock_two ck) (both_read (of_wide p.1) (all_wide (ws ps)))).rows ⊎ In l (both_read (clock_two ck) (both_read (of_wide p.1) (all_wide (ws ps)))).more
      between l (inl a) = inl (middle l (rules.clock_rows d ck) p.1.rows (all_wide (ws ps)).rows a)
      between l (inr a) = inr (middle l (close.clock_more d ck) p.1.more (all_wide (ws ps)).more a)

  abbrev every_l : Option TwoS → Option Reading
  every_l None = None
  every_l (Some p) = Some p.0

  abbrev every_r : Option TwoS → Option Wide
  every_r None = None
  every_r (Some p) = Some p.1

  every_into : (s : Option TwoS) → Into (every_needs (every_l s)).now (every_wide (every_r s))
  every_into None = into_none close.nothing_read
  every_into (Some p) = p.2.1

  call_into : (n : Note) (bound : Binder) (x : ℕ) (ps : List TwoS) (s : Option TwoS)
      → Into (Reads.called d shapes n bound x (rs ps) (every_l s)).needs.now
      (both_read (clock_two n.ck) (both_read (close.rows_alone (bound_rows bound)) (both_read (all_wide (ws ps)) (every_wide (every_r s)))))
  call_into n bound x ps s =
      let ck : Two = clock_two n.ck in
      let bo : Two = close.rows_alone (bound_rows bound) in
      let al : Two = all_wide (ws ps) in
      let ev : Two = every_wide (every_r s) in
      let whole : Two = both_read ck (both_read bo (both_read al ev)) in
      into_both (bound_keys bound ++ Reads.clocks_keys d shapes (clocks_read (rs ps) ++ n.ck ∷ [])) ((all_needs (rs ps)).now ++ (every_needs (every_l s)).now) whole
      (into_both (bound_keys bound) (Reads.clocks_keys d shapes (clocks_read (rs ps) ++ n.ck ∷ [])) whole
      (into_right (bound_keys bound) ck (both_read bo (both_read al ev)) (into_left (bound_keys bound) bo (both_read al ev) (bound_into bound)))
      (λ l h. elim (clocks_into n.ck ps l h) [
        | inl a ↦ inl (inner l (rules.clock_rows d n.ck) (bound_rows bound) al.rows ev.rows a)
        | inr a ↦ inr (inner l (close.clock_more d n.ck) [] al.more ev.more a)
      ]))
      (into_right ((all_needs (rs ps)).now ++ (every_needs (every_l s)).now) ck (both_read bo (both_read al ev))
      (into_right ((all_needs (rs ps)).now ++ (every_needs (every_l s)).now) bo (both_read al ev)
      (into_pair (all_needs (rs ps)).now (every_needs (every_l s)).now al ev (all_into ps) (every_into s))))

  used_into : (n : Note) (bound : Binder) (x : ℕ) → Into (Reads.used d shapes n bound x).needs.now (both_read (clock_two n.ck) (close.rows_alone (bound_rows bound)))
  used_into n (b.Def k) x = λ l h. elim (call_into n (b.Def k) x [] None l h) [ inl a ↦ inl a | inr a ↦ inr a ]
  used_into n (b.Var k) x = into_right (key.Var k ∷ []) (clock_two n.ck) (close.rows_alone (key.Var k ∷ [])) (bound_into (b.Var k))
  used_into n (b.Param k) x = into_none (both_read (clock_two n.ck) (close.rows_alone []))
  used_into n b.Nothing x = into_none (both_read (clock_two n.ck) (close.rows_alone []))
  used_into n (b.Case c k) x = into_none (both_read (clock_two n.ck) (close.rows_alone []))

  -- `last x`
  around_into : (p : Place) → Into (around_keys p) (record { rows = reset_rows p; more = arm_keys (arms p) })
  around_into [] l h = absurd (none_in h)
  around_into (frame.Reset r ∷ p) l h = elim (in_cons l (key.Reset r) (around_keys p) h) [
    | inl e ↦ inl (subst (λ z. In z (key.Reset r ∷ reset_rows p)) e (first (reset_rows p)))
    | inr g ↦ elim (around_into p l g) [ inl a ↦ inl (later (key.Reset r) (reset_rows p) a) | inr a ↦ inr a ]
  ]
  around_into (frame.Arm m j ∷ p) l h = elim (in_cons l (key.Name m) (around_keys p) h) [
    | inl e ↦ inr (subst (λ z. In z (key.Name m ∷ arm_keys (arms p))) e (first (arm_keys (arms p))))
    | inr g ↦ elim (around_into p l g) [ inl a ↦ inl a | inr a ↦ inr (later (key.Name m) (arm_keys (arms p)) a) ]
  ]

  start_into : (x : ℕ) (s : Option Start) → Into (start_keys x s) (close.rows_alone (start_rows x s))
  start_into x None = or_none [] []
  start_into x (Some s) = or_same (key.Start x ∷ [])

  last_into : (x : ℕ) (w : Option Variable) → Into (Reads.last_needs_of d shapes x w).now (record { rows = rules.last_rows_of d x w; more = close.last_more_of d w })
  last_into x None l h = absurd (none_in h)
  last_into x (Some w) l h = elim (in_split l (around_keys w.place) (start_keys x (start_of w d.places.starts)) h) [
    | inl a ↦ elim (around_into w.place l a) [ inl c ↦ inl (in_right l (start_rows x (start_of w d.places.starts)) (reset_rows w.place) c) | inr c ↦ inr c ]
    | inr a ↦ elim (start_into x (start_of w d.places.starts) l a) [ inl c ↦ inl (in_left l (start_rows x (start_of w d.places.starts)) (reset_rows w.place) c) | inr c ↦ absurd (none_in c) ]
  ]

  lasts_into : (bound : Binder) → Into (Reads.last_needs d shapes bound).now (record { rows = rules.last_rows d bound; more = close.last_more d bound })
  lasts_into (b.Var x) = last_into x (nth d.places.vars x)
  lasts_into (b.Def k) = or_none [] []
  lasts_into (b.Param k) = or_none [] []
  lasts_into b.Nothing = or_none [] []
  lasts_into (b.Case c k) = or_none [] []

  -- a delay
  delayed_into : (n : Note) (xs : List Key) (t : Two) → Into xs t
      → Into (Reads.restart_keys d shapes n.restarts ++ xs) (both_read (clock_two n.ck) (both_read (close.rows_alone (restart_rows n.restarts)) t))
  delayed_into n xs t f = into_right (Reads.restart_keys d shapes n.restarts ++ xs) (clock_two n.ck) (both_read (close.rows_alone (restart_rows n.restarts)) t)
      (into_pair (restart_rows n.restarts) xs (close.rows_alone (restart_rows n.restarts)) t (or_same (restart_rows n.restarts)) f)

  abbrev fs : Form-F Note (Note → Formed) Reading → Note → Formed
  fs = Reads.form_reading d shapes

  abbrev es : Expr-F Note (Note → Formed) Reading → Reading
  es = Reads.expr_reading d shapes

  layer : (y : Form-F Note TwoF TwoS) → HoldsF (fs (Related.lefts fs es (close.form_wide d) (close.expr_wide d) HoldsF Holds y))
      (close.form_wide d (Related.rights fs es (close.form_wide d) (close.expr_wide d) HoldsF Holds y))
  layer (Form-F.Leaf l) n = into_none (both_read (clock_two n.ck) close.nothing_read)
  layer (Form-F.Case x) n = into_none (both_read (clock_two n.ck) close.nothing_read)
  layer (Form-F.Var x) n = used_into n n.bound x.0
  layer (Form-F.Last x) n = into_right (Reads.last_needs d shapes n.bound).now (clock_two n.ck) (record { rows = rules.last_rows d n.bound; more = close.last_more d n.bound }) (lasts_into n.bound)
  layer (Form-F.Asked x) n = into_right (bound_keys n.bound) (clock_two n.ck) (close.rows_alone (bound_rows n.bound)) (bound_into n.bound)
  layer (Form-F.Op o ps) n = into_right (all_needs (rs ps)).now (clock_two n.ck) (all_wide (ws ps)) (all_into ps)
  layer (Form-F.Tuple ps) n = into_right (all_needs (rs ps)).now (clock_two n.ck) (all_wide (ws ps)) (all_into ps)
  layer (Form-F.Pre p) n = into_right (Reads.restart_keys d shapes n.restarts ++ []) (clock_two n.ck) (close.rows_alone (restart_rows n.restarts))
      (into_both (restart_rows n.restarts) [] (close.rows_alone (restart_rows n.restarts)) (or_same (restart_rows n.restarts)) (into_none (close.rows_alone (restart_rows n.restarts))))
  layer (Form-F.Fby x y) n = delayed_into n (x.0.needs.now ++ []) (of_wide x.1) (into_both x.0.needs.now [] (of_wide x.1) x.2.1 (into_none (of_wide x.1)))
  layer (Form-F.Init x y) n = delayed_into n (x.0.needs.now ++ y.0.needs.now) (both_read (of_wide x.1) (of_wide y.1))
      (into_pair x.0.needs.now y.0.needs.now (of_wide x.1) (of_wide y.1) x.2.1 y.2.1)
  layer (Form-F.When p x k) n = into_right p.0.needs.now (clock_two n.ck) (both_read (close.rows_alone (bound_rows n.bound)) (of_wide p.1))
      (into_right p.0.needs.now (close.rows_alone (bound_rows n.bound)) (of_wide p.1) p.2.1)
  layer (Form-F.Merge x cs) n = into_right (bound_keys n.bound ++ (all_needs (choice_parts (in_choices {X = TwoS} {Y = Reading} (λ p. p.0) cs))).now) (clock_two n.ck)
      (both_read (close.rows_alone (bound_rows n.bound)) (all_wide (choice_parts (in_choices {X = TwoS} {Y = Wide} (λ p. p.1) cs))))
      (into_pair (bound_keys n.bound) (all_needs (choice_parts (in_choices {X = TwoS} {Y = Reading} (λ p. p.0) cs))).now (close.rows_alone (bound_rows n.bound))
      (all_wide (choice_parts (in_choices {X = TwoS} {Y = Wide} (λ p. p.1) cs))) (bound_into n.bound) (choices_into cs))
  layer (Form-F.Call run x ps None) n = call_into n n.bound x.0 ps None
  layer (Form-F.Call run x ps (Some q)) n = call_into n n.bound x.0 ps (Some q)

  expr_layer : (n : Note) (p : TwoF) → Holds (es (record { note = n; form = p.0 })) (close.expr_wide d (record { note = n; form = p.1 }))
  expr_layer n p = (
    refl,
    into_both (keys n.ck) (p.0 n).needs.now (both_read (clock_two n.ck) (p.1 n)) (into_left (keys n.ck) (clock_two n.ck) (p.1 n) (clock_into n.ck)) (p.2 n),
    into_left (keys n.ck) (clock_two n.ck) (p.1 n) (clock_into n.ck),
  )

  -- what the model reads in an expression is read by the rules, or besides
  pub reading_into : (e : E) → Holds (Reads.reading d shapes e) (close.wide d e)
  reading_into e = related fs es (close.form_wide d) (close.expr_wide d) HoldsF Holds layer expr_layer e
