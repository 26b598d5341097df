-- What rows read does not go by the shapes of the arguments; only the calls do.
use Rattle.std.specs.Prelude.{◌≡◌, refl, ℕ, zero, suc, ◌+◌, ◌-◌, ◌<◌, Bool, true, false, List, [], ◌∷◌, ◌++◌, map, length, Option, Some, None, if◌then◌else◌}
use Rattle.std.proofs.Common.{ap, ap₂, ◌∙◌, subst}
use Rattle.ls_ast.specs.declared.tree.Case.{Case}
use Rattle.ls_ast.specs.declared.tree.Expr.{Expr-F}
use Rattle.ls_ast.specs.declared.tree.Form.TheOpen.{Form-F}
use Rattle.ls_places.specs.Patterns.{joined}
use Rattle.ls_places.specs.Places.{Place, InnerArm, arms}
use Rattle.ls_sig.specs.declared.binder.Binder.{Binder}
use Rattle.ls_sig.specs.declared.binder.Binder.TheVariants as b
use Rattle.ls_sig.specs.declared.binder.Note.{Note}
use Rattle.ls_places.specs.declared.places.Named.{Named}
use Rattle.ls_places.specs.declared.places.Named.TheVariants as named
use Rattle.ls_places.specs.declared.places.Right.{Right}
use Rattle.ls_places.specs.declared.places.Right.TheVariants as rhs
use Rattle.ls_places.specs.declared.places.Site.{Site}
use Rattle.ls_places.specs.declared.places.Start.{Start}
use Rattle.ls_places.specs.declared.places.Transition.{Transition}
use Rattle.ls_places.specs.declared.places.Variable.{Variable}
use Rattle.ls_terms.specs.declared.clocks.ClockTerm.{ClockTerm, fold-ClockTerm}
use Rattle.ls_terms.specs.declared.clocks.ClockTerm.TheOpen.{ClockTerm-F}
use Rattle.ls_places.specs.declared.definition.Key.{Key}
use Rattle.ls_places.specs.declared.definition.Key.TheVariants as key
use Rattle.ls_places.specs.declared.definition.Definition.{Definition}
use Rattle.ls_places.specs.Clocks.{bare, choice_parts}
use Rattle.kahn_model.specs.Fullness.{All, HasKey}
use Rattle.kahn_model.specs.Causality.{AllCausal, Causal, InTable, Nests, NestsBody, Sound, SoundBody, body_calls}
use Rattle.ls_places.specs.Search
use Rattle.ls_places.specs.Search.{E, mode_clock, nth, param_clock, signal_arms, signal_at, sites_of, start_of, tested_outside, whole_of}
use Rattle.ls_places.specs.declared.places.Whole.{Whole}
use Rattle.kahn_model.specs.Table.{row_keys}
use Rattle.kahn_model.specs.Reads
use Rattle.kahn_model.specs.Reads.{Call, Shape, Needs, Formed, Reading, together, earlier, nothing, now_only, all_needs, every_needs, clocks_read, bound_keys, around_keys, arm_keys}
use Rattle.kahn_model.proofs.Related
use Rattle.kahn_model.proofs.Related.{in_choices, related}

-- the same rows, now and before
abbrev pub Same : Needs → Needs → Type 0
Same r s = (r.now ≡ s.now) × (r.before ≡ s.before)

same_together : (r r' s s' : Needs) → Same r r' → Same s s' → Same (together r s) (together r' s')
same_together r r' s s' p q = (ap₂ (λ xs ys. xs ++ ys) p.0 q.0, ap₂ (λ xs ys. xs ++ ys) p.1 q.1)

same_earlier : (r r' : Needs) → Same r r' → Same (earlier r) (earlier r')
same_earlier r r' p = (refl, ap₂ (λ xs ys. xs ++ ys) p.0 p.1)

same_now : (ks ls : List Key) → ks ≡ ls → Same (now_only ks) (now_only ls)
same_now ks ls p = (p, refl)

same_if : (t : Bool) (r r' s s' : Needs) → Same r r' → Same s s' → Same (if t then r else s) (if t then r' else s')
same_if true r r' s s' p q = p
same_if false r r' s s' p q = q

module _ (d : Definition) (ss tt' : List Shape) where
  -- ---- clocks

  clock_step_same : (x : ClockTerm-F (List Key)) → Reads.clock_step d ss x ≡ Reads.clock_step d tt' x
  clock_step_same (ClockTerm-F.Var w) = refl
  clock_step_same (ClockTerm-F.On ck m k) = refl
  clock_step_same ClockTerm-F.Pointwise = refl
  clock_step_same (ClockTerm-F.Arrow cks ck) = refl

  keys_same : (ck : ClockTerm) → Reads.clock_keys d ss ck ≡ Reads.clock_keys d tt' ck
  keys_same ck = ap (λ (s : ClockTerm-F (List Key) → List Key). fold-ClockTerm (List Key) s ck) (λ i x. clock_step_same x i)

  all_keys_same : (cks : List ClockTerm) → Reads.clocks_keys d ss cks ≡ Reads.clocks_keys d tt' cks
  all_keys_same [] = refl
  all_keys_same (ck ∷ cks) = ap₂ (λ xs ys. xs ++ ys) (keys_same ck) (all_keys_same cks)

  right_clock_same : (s : Site) (r : Right) → Reads.right_clock_keys d ss s r ≡ Reads.right_clock_keys d tt' s r
  right_clock_same s (rhs.Part p k) = keys_same (bare (length s.inner) (whole_of d k).expr.note.ck)
  right_clock_same s (rhs.Whole k) = keys_same (bare (length s.inner) (whole_of d k).expr.note.ck)
  right_clock_same s (rhs.Pattern x p) = refl

  site_clock_same : (s : Option Site) → Reads.site_clock_keys d ss s ≡ Reads.site_clock_keys d tt' s
  site_clock_same None = refl
  site_clock_same (Some s) = right_clock_same s s.right

  variable_clock_same : (x : ℕ) → Reads.variable_clock_keys d ss x ≡ Reads.variable_clock_keys d tt' x
  variable_clock_same x = site_clock_same (nth (sites_of x d.places.sites) 0)

  some_clock_same : (o : Option ClockTerm) → Reads.some_clock_keys d ss o ≡ Reads.some_clock_keys d tt' o
  some_clock_same None = refl
  some_clock_same (Some ck) = keys_same ck

  signal_clock_same : (x : ℕ) (o : Option ℕ) → Reads.signal_clock_keys d ss x o ≡ Reads.signal_clock_keys d tt' x o
  signal_clock_same x (Some k) = variable_clock_same k
  signal_clock_same x None = some_clock_same (param_clock x d.params d.clocks)

  signal_here_same : (x : ℕ) (p : List InnerArm) → Reads.signal_here_keys d ss x p ≡ Reads.signal_here_keys d tt' x p
  signal_here_same x p = ap (λ ks. ks ++ arm_keys (signal_arms d x p)) (signal_clock_same x (signal_at d x p))

  -- ---- expressions

  last_of_same : (x : ℕ) (w : Option Variable) → Same (Reads.last_needs_of d ss x w) (Reads.last_needs_of d tt' x w)
  last_of_same x None = (refl, refl)
  last_of_same x (Some w) = (refl, ap (λ ks. key.Var x ∷ ks) (variable_clock_same x))

  last_same : (bound : Binder) → Same (Reads.last_needs d ss bound) (Reads.last_needs d tt' bound)
  last_same (b.Var x) = last_of_same x (nth d.places.vars x)
  last_same b.Nothing = (refl, refl)
  last_same (b.Def k) = (refl, refl)
  last_same (b.Param k) = (refl, refl)
  last_same (b.Case c k) = (refl, refl)

  abbrev R : Reading → Reading → Type 0
  R r s = (r.note ≡ s.note) × Same r.needs s.needs

  abbrev RF : (Note → Formed) → (Note → Formed) → Type 0
  RF f g = (n : Note) → Same (f n).needs (g n).needs

  abbrev Two : Type 0
  Two = (r : Reading) × (s : Reading) × R r s

  abbrev TwoF : Type 0
  TwoF = (f : Note → Formed) × (g : Note → Formed) × RF f g

  abbrev ls : List Two → List Reading
  ls = map {A = Two} {B = Reading} (λ p. p.0)

  abbrev rs : List Two → List Reading
  rs = map {A = Two} {B = Reading} (λ p. p.1)

  all_same : (ps : List Two) → Same (all_needs (ls ps)) (all_needs (rs ps))
  all_same [] = (refl, refl)
  all_same (p ∷ ps) = same_together p.0.needs p.1.needs (all_needs (ls ps)) (all_needs (rs ps)) p.2.1 (all_same ps)

  choices_same : (ps : List (Case × Two)) → Same (all_needs (choice_parts (in_choices {X = Two} {Y = Reading} (λ p. p.0) ps))) (all_needs (choice_parts (in_choices {X = Two} {Y = Reading} (λ p. p.1) ps)))
  choices_same [] = (refl, refl)
  choices_same (p ∷ ps) = same_together p.1.0.needs p.1.1.needs (all_needs (choice_parts (in_choices {X = Two} {Y = Reading} (λ p. p.0) ps)))
      (all_needs (choice_parts (in_choices {X = Two} {Y = Reading} (λ p. p.1) ps))) p.1.2.1 (choices_same ps)

  clocks_same : (ps : List Two) → clocks_read (ls ps) ≡ clocks_read (rs ps)
  clocks_same [] = refl
  clocks_same (p ∷ ps) = ap₂ (λ (n : Note) cks. n.ck ∷ cks) p.2.0 (clocks_same ps)

  abbrev left_every : Option Two → Option Reading
  left_every None = None
  left_every (Some p) = Some p.0

  abbrev right_every : Option Two → Option Reading
  right_every None = None
  right_every (Some p) = Some p.1

  every_same : (s : Option Two) → Same (every_needs (left_every s)) (every_needs (right_every s))
  every_same None = (refl, refl)
  every_same (Some p) = p.2.1

  called_same : (n : Note) (bound : Binder) (x : ℕ) (ps : List Two) (s : Option Two)
      → Same (Reads.called d ss n bound x (ls ps) (left_every s)).needs (Reads.called d tt' n bound x (rs ps) (right_every s)).needs
  called_same n bound x ps s =
      let q = same_together (all_needs (ls ps)) (all_needs (rs ps)) (every_needs (left_every s)) (every_needs (right_every s)) (all_same ps) (every_same s) in (
        ap₂ (λ xs ys. xs ++ ys)
            (ap (λ ks. bound_keys bound ++ ks) (ap (λ cks. Reads.clocks_keys d ss (cks ++ n.ck ∷ [])) (clocks_same ps) ∙ all_keys_same (clocks_read (rs ps) ++ n.ck ∷ [])))
            q.0,
        q.1,
      )

  used_same : (n : Note) (bound : Binder) (x : ℕ) → Same (Reads.used d ss n bound x).needs (Reads.used d tt' n bound x).needs
  used_same n (b.Def k) x = called_same n (b.Def k) x [] None
  used_same n (b.Var k) x = (refl, refl)
  used_same n (b.Param k) x = (refl, refl)
  used_same n b.Nothing x = (refl, refl)
  used_same n (b.Case c k) x = (refl, refl)

  abbrev fr : Form-F Note (Note → Formed) Reading → Note → Formed
  fr = Reads.form_reading d ss

  abbrev er : Expr-F Note (Note → Formed) Reading → Reading
  er = Reads.expr_reading d ss

  abbrev fr' : Form-F Note (Note → Formed) Reading → Note → Formed
  fr' = Reads.form_reading d tt'

  abbrev er' : Expr-F Note (Note → Formed) Reading → Reading
  er' = Reads.expr_reading d tt'

  same_delayed : (n : Note) (r r' : Needs) → Same r r' → Same (Reads.delayed d ss n r) (Reads.delayed d tt' n r')
  same_delayed n r r' p = (ap (λ xs. Reads.restart_keys d ss n.restarts ++ xs) p.0, p.1)

  layer : (y : Form-F Note TwoF Two) → RF (fr (Related.lefts fr er fr' er' RF R y)) (fr' (Related.rights fr er fr' er' RF R y))
  layer (Form-F.Leaf l) n = (refl, refl)
  layer (Form-F.Case x) n = (refl, refl)
  layer (Form-F.Var x) n = used_same n n.bound x.0
  layer (Form-F.Last x) n = last_same n.bound
  layer (Form-F.Asked x) n = (refl, refl)
  layer (Form-F.Op o args) n = all_same args
  layer (Form-F.Tuple all) n = all_same all
  layer (Form-F.Pre e) n = same_delayed n (earlier e.0.needs) (earlier e.1.needs) (same_earlier e.0.needs e.1.needs e.2.1)
  layer (Form-F.Fby x y) n = same_delayed n (together x.0.needs (earlier y.0.needs)) (together x.1.needs (earlier y.1.needs)) (same_together x.0.needs x.1.needs (earlier y.0.needs) (earlier y.1.needs) x.2.1 (same_earlier y.0.needs y.1.needs y.2.1))
  layer (Form-F.Init x y) n = same_delayed n (together x.0.needs y.0.needs) (together x.1.needs y.1.needs) (same_together x.0.needs x.1.needs y.0.needs y.1.needs x.2.1 y.2.1)
  layer (Form-F.When e x k) n = e.2.1
  layer (Form-F.Merge x choices) n = same_together (now_only (bound_keys n.bound)) (now_only (bound_keys n.bound))
      (all_needs (choice_parts (in_choices {X = Two} {Y = Reading} (λ p. p.0) choices))) (all_needs (choice_parts (in_choices {X = Two} {Y = Reading} (λ p. p.1) choices))) (refl, refl) (choices_same choices)
  layer (Form-F.Call run head args None) n = called_same n n.bound head.0 args None
  layer (Form-F.Call run head args (Some s)) n = called_same n n.bound head.0 args (Some s)

  expr_same : (n : Note) (p : TwoF) → R (er (record { note = n; form = p.0 })) (er' (record { note = n; form = p.1 }))
  expr_same n p = (
    refl,
    same_together (now_only (Reads.clock_keys d ss n.ck)) (now_only (Reads.clock_keys d tt' n.ck)) (p.0 n).needs (p.1 n).needs
        (keys_same n.ck, refl) (p.2 n),
  )

  reading_same : (e : E) → R (Reads.reading d ss e) (Reads.reading d tt' e)
  reading_same = related fr er fr' er' RF R layer expr_same

  at_same : (p : Place) (e : E) → Same (Reads.needs_at d ss p e) (Reads.needs_at d tt' p e)
  at_same p e = same_together (now_only (around_keys p)) (now_only (around_keys p)) (Reads.reading d ss e).needs (Reads.reading d tt' e).needs (refl, refl) (reading_same e).1

  whole_same : (k : ℕ) → Same (Reads.whole_needs d ss k) (Reads.whole_needs d tt' k)
  whole_same k = at_same (whole_of d k).place (whole_of d k).expr

  -- ---- rows

  right_same : (p : Place) (r : Right) → Same (Reads.right_needs d ss p r) (Reads.right_needs d tt' p r)
  right_same p (rhs.Part pat k) = whole_same k
  right_same p (rhs.Whole k) = whole_same k
  right_same p (rhs.Pattern y pat) = (refl, refl)

  site_same : (inner : List InnerArm) (r r' o o' : Needs) → Same r r' → Same o o' → Same (Reads.site_needs d ss inner r o) (Reads.site_needs d tt' inner r' o')
  site_same [] r r' o o' p q = p
  site_same (mj ∷ inner) r r' o o' p q = same_together (together (now_only (arm_keys (mj ∷ inner))) r) (together (now_only (arm_keys (mj ∷ inner))) r') o o'
      (same_together (now_only (arm_keys (mj ∷ inner))) (now_only (arm_keys (mj ∷ inner))) r r' (refl, refl) p) q

  sites_same : (o o' : Needs) → Same o o' → (all : List Site) → Same (Reads.sites_needs d ss o all) (Reads.sites_needs d tt' o' all)
  sites_same o o' q [] = q
  sites_same o o' q (s ∷ rest) = site_same s.inner (Reads.right_needs d ss s.place s.right) (Reads.right_needs d tt' s.place s.right)
      (Reads.sites_needs d ss o rest) (Reads.sites_needs d tt' o' rest) (right_same s.place s.right) (sites_same o o' q rest)

  otherwise_same : (x : ℕ) (w : Variable) → Same (Reads.otherwise_needs d ss x w) (Reads.otherwise_needs d tt' x w)
  otherwise_same x w =
      let l : Bool = Search.lacks d (sites_of x d.places.sites) in
      let r : Needs = Reads.last_needs_of d ss x (Some w) in
      let r' : Needs = Reads.last_needs_of d tt' x (Some w) in
      same_if w.signal nothing nothing (if l then r else nothing) (if l then r' else nothing) (refl, refl) (same_if l r r' nothing nothing (last_of_same x (Some w)) (refl, refl))

  variable_same : (x : ℕ) (w : Option Variable) → Same (Reads.variable_needs d ss x w) (Reads.variable_needs d tt' x w)
  variable_same x None = (refl, refl)
  variable_same x (Some w) = same_together (now_only (Reads.variable_clock_keys d ss x)) (now_only (Reads.variable_clock_keys d tt' x))
      (Reads.sites_needs d ss (Reads.otherwise_needs d ss x w) (sites_of x d.places.sites)) (Reads.sites_needs d tt' (Reads.otherwise_needs d tt' x w) (sites_of x d.places.sites))
      (variable_clock_same x, refl) (sites_same (Reads.otherwise_needs d ss x w) (Reads.otherwise_needs d tt' x w) (otherwise_same x w) (sites_of x d.places.sites))

  start_same : (s : Option Start) → Same (Reads.start_needs d ss s) (Reads.start_needs d tt' s)
  start_same None = (refl, refl)
  start_same (Some s) = whole_same s.right

  variable_start_same : (w : Option Variable) → Same (Reads.variable_start_needs d ss w) (Reads.variable_start_needs d tt' w)
  variable_start_same None = (refl, refl)
  variable_start_same (Some w) = start_same (start_of w d.places.starts)

  mode_same_of : (o : Option ClockTerm) (x : Option ℕ) (p : Place) → Reads.mode_keys_of d ss o x p ≡ Reads.mode_keys_of d tt' o x p
  mode_same_of (Some ck) x p = keys_same ck
  mode_same_of None (Some x) p = signal_here_same x (arms p)
  mode_same_of None None p = refl

  mode_same : (m : ℕ) (p : Place) → Reads.mode_keys d ss m p ≡ Reads.mode_keys d tt' m p
  mode_same m p = mode_same_of (mode_clock m d.places.exprs) (tested_outside d m) p

  present_same : (xs : List ℕ) (p : Place) → Reads.present_keys d ss xs p ≡ Reads.present_keys d tt' xs p
  present_same [] p = refl
  present_same (x ∷ xs) p = signal_here_same x (arms p)

  transitions_same : (gs : List Transition) → Same (Reads.transitions_needs d ss gs) (Reads.transitions_needs d tt' gs)
  transitions_same [] = (refl, refl)
  transitions_same (g ∷ gs) = same_together (Reads.whole_needs d ss g.cond) (Reads.whole_needs d tt' g.cond) (Reads.transitions_needs d ss gs) (Reads.transitions_needs d tt' gs) (whole_same g.cond) (transitions_same gs)

  guards_same : (states : List (ℕ × List Transition)) → Same (Reads.guards_needs d ss states) (Reads.guards_needs d tt' states)
  guards_same [] = (refl, refl)
  guards_same (t ∷ ts) = same_together (Reads.transitions_needs d ss t.1) (Reads.transitions_needs d tt' t.1)
      (Reads.guards_needs d ss ts) (Reads.guards_needs d tt' ts) (transitions_same t.1) (guards_same ts)

  signals_same : (p : Place) (xs : List ℕ) → joined (map (Reads.signal_keys d ss p) xs) ≡ joined (map (Reads.signal_keys d tt' p) xs)
  signals_same p [] = refl
  signals_same p (x ∷ xs) = ap (λ ks. Reads.signal_keys d ss p x ++ ks) (signals_same p xs)

  name_same : (m : ℕ) (o : Option Named) → Same (Reads.name_needs d ss m o) (Reads.name_needs d tt' m o)
  name_same m None = (refl, refl)
  name_same m (Some (named.Clock x)) = (refl, refl)
  name_same m (Some (named.Match k all p)) =
      let ck : ClockTerm = (whole_of d k).expr.note.ck in
      same_together (now_only (Reads.clock_keys d ss ck)) (now_only (Reads.clock_keys d tt' ck))
      (Reads.whole_needs d ss k) (Reads.whole_needs d tt' k) (keys_same ck, refl) (whole_same k)
  name_same m (Some (named.Present xs p)) = (ap₂ (λ ks ls. ks ++ ls) (present_same xs p) (signals_same p xs), refl)
  name_same m (Some (named.Active states p)) = same_together (now_only (Reads.mode_keys d ss m p ++ key.Name (m + 1) ∷ [])) (now_only (Reads.mode_keys d tt' m p ++ key.Name (m + 1) ∷ []))
      (Reads.guards_needs d ss states) (Reads.guards_needs d tt' states) (ap (λ ks. ks ++ key.Name (m + 1) ∷ []) (mode_same m p), refl) (guards_same states)
  name_same m (Some (named.Tested states p)) =
      let row : Needs = now_only (key.Name (m - 1) ∷ []) in
      let gs : Needs = Reads.guards_needs d ss states in
      let gs' : Needs = Reads.guards_needs d tt' states in
      same_together (now_only (Reads.mode_keys d ss (m - 1) p ++ around_keys p)) (now_only (Reads.mode_keys d tt' (m - 1) p ++ around_keys p))
      (earlier (together row gs)) (earlier (together row gs')) (ap (λ ks. ks ++ around_keys p) (mode_same (m - 1) p), refl)
      (same_earlier (together row gs) (together row gs') (same_together row row gs gs' (refl, refl) (guards_same states)))

  reset_same : (o : Option ℕ) → Same (Reads.reset_needs d ss o) (Reads.reset_needs d tt' o)
  reset_same None = (refl, refl)
  reset_same (Some k) = whole_same k

  key_same : (k : Key) → Same (Reads.key_needs d ss k) (Reads.key_needs d tt' k)
  key_same (key.Var x) = variable_same x (nth d.places.vars x)
  key_same (key.Start x) = variable_start_same (nth d.places.vars x)
  key_same (key.Name m) = name_same m (nth d.places.names (m - length d.params))
  key_same (key.Reset r) = reset_same (nth d.places.resets r)

  -- ---- causality

  in_table_same : (r s : Needs) → Same r s → InTable d r → InTable d s
  in_table_same r s p h = record {
    now = subst (All (λ l. HasKey l (row_keys d))) p.0 h.now;
    before = subst (All (λ l. HasKey l (row_keys d))) p.1 h.before;
  }

  all_in_table : (all : List (Whole Note)) → All (λ (w : Whole Note). InTable d (Reads.needs_at d ss w.place w.expr)) all → All (λ (w : Whole Note). InTable d (Reads.needs_at d tt' w.place w.expr)) all
  all_in_table [] q = tt
  all_in_table (w ∷ all) q = (in_table_same (Reads.needs_at d ss w.place w.expr) (Reads.needs_at d tt' w.place w.expr) (at_same w.place w.expr) q.0, all_in_table all q.1)

  pub causal_same : Causal d ss → Causal d tt'
  causal_same c = record {
    rank = c.rank;
    rows = λ k h. record {
      now = subst (All (λ l. HasKey l (row_keys d) × (c.rank l < c.rank k))) (key_same k).0 (c.rows k h).now;
      before = subst (All (λ l. HasKey l (row_keys d))) (key_same k).1 (c.rows k h).before;
    };
    exprs = all_in_table d.places.exprs c.exprs;
    result = in_table_same (Reads.result_needs d ss) (Reads.result_needs d tt') (at_same [] d.result) c.result;
  }

-- ---- nesting

module _ (defs : List Definition) (causal : AllCausal defs) where
  all_sound : (depth : ℕ) → ((k : ℕ) (shapes : List Shape) → Nests defs depth k shapes → Sound defs depth k shapes) → (calls : List Call)
      → All (λ (c : Call). Nests defs depth c.0 c.1) calls → All (λ (c : Call). Sound defs depth c.0 c.1) calls
  all_sound depth f [] q = tt
  all_sound depth f (c ∷ calls) q = (f c.0 c.1 q.0, all_sound depth f calls q.1)

  body_sound : (depth : ℕ) → ((k : ℕ) (shapes : List Shape) → Nests defs depth k shapes → Sound defs depth k shapes) → (o : Option Definition)
      → ((d : Definition) → o ≡ Some d → Causal d []) → (shapes : List Shape) → NestsBody defs (Nests defs depth) o shapes → SoundBody (Sound defs depth) o shapes
  body_sound depth f None g shapes q = q
  body_sound depth f (Some d) g shapes q = (causal_same d [] shapes (g d refl), all_sound depth f (body_calls d shapes) q)

  pub sound_by_nesting : (depth k : ℕ) (shapes : List Shape) → Nests defs depth k shapes → Sound defs depth k shapes
  sound_by_nesting zero k shapes q = q
  sound_by_nesting (suc depth) k shapes q = body_sound depth (sound_by_nesting depth) (nth defs k) (λ d e. causal k d e) shapes q
