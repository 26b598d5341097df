-- The numbers in what is found point to what is there: each step of the walk keeps this, and takes nothing away.
use Rattle.std.specs.Prelude.{◌≡◌, ℕ, suc, ◌+◌, ◌==◌, ◌&&◌, ◌<◌, ◌≤◌, Bool, true, false, List, [], ◌∷◌, ◌++◌, map, length, Option, Some, None, unwrap_or, if◌then◌else◌, slice_set, refl}
use Rattle.std.specs.List.{All}
use Rattle.std.proofs.Common.{ap, sym, subst, arith}
use Rattle.std.proofs.lemmas.List.{length-append}
use Rattle.std.proofs.lemmas.List.Elements.{All-cons, All-nil, All-push, All-set, All-weaker}
use Rattle.ls_ast.specs.declared.tree.Expr.{Expr}
use Rattle.ls_ast.specs.declared.tree.Pat.{Pat}
use Rattle.ls_ast.specs.declared.tree.BodyOf.{BodyOf}
use Rattle.ls_ast.specs.declared.tree.Equation.{Equation, fold-roll-Equation, ind-Equation, map-Equation, roll-Equation}
use Rattle.ls_ast.specs.declared.tree.Equation.TheOpen.{Equation-F, Arm-F, Guard-F, Handler-F, State-F, Test-F}
use Rattle.ls_ast.specs.declared.tree.Arm.{Arm, fold-roll-Arm, roll-Arm}
use Rattle.ls_ast.specs.declared.tree.Guard.{Guard, fold-roll-Guard, roll-Guard}
use Rattle.ls_ast.specs.declared.tree.Handler.{Handler, fold-roll-Handler, roll-Handler}
use Rattle.ls_ast.specs.declared.tree.State.{State, fold-roll-State, roll-State}
use Rattle.ls_ast.specs.declared.tree.Test.{Test, fold-roll-Test, roll-Test}
use Rattle.ls_places.specs.Patterns.{names_of}
use Rattle.ls_places.specs.Places
use Rattle.ls_places.specs.Places.{Bound, InnerArm, arms, spot, place_of, same_arms, bind, bind_at, bind_all}
use Rattle.ls_places.specs.Ranges.{AllBelow, GuardsBelow, InRange, NamedBelow, RightBelow, SiteBelow}
use Rattle.ls_places.specs.declared.around.Where.{Where}
use Rattle.ls_places.specs.declared.places.Named.{Named}
use Rattle.ls_places.specs.declared.places.Named.TheVariants as named
use Rattle.ls_places.specs.declared.places.Right.{Right}
use Rattle.ls_places.specs.declared.places.Right.TheVariants as rhs
use Rattle.ls_places.specs.declared.places.Site.{Site}
use Rattle.ls_places.specs.declared.places.Start.{Start}
use Rattle.ls_places.specs.declared.places.Transition.{Transition}
use Rattle.ls_places.specs.declared.places.Variable.{Variable}

-- ---- more variables and expressions

right_more : (e e' : ℕ) → e ≤ e' → (r : Right) → RightBelow e r → RightBelow e' r
right_more e e' l (rhs.Part p k) b = omega (arith, l, b)
right_more e e' l (rhs.Whole k) b = omega (arith, l, b)
right_more e e' l (rhs.Pattern x p) b = b

all_more : (n n' : ℕ) → n ≤ n' → (ks : List ℕ) → AllBelow n ks → AllBelow n' ks
all_more n n' l ks b = All-weaker (λ k. k < n) (λ k. k < n') (λ k h. omega (arith, l, h)) ks b

site_more : (v v' e e' : ℕ) → v ≤ v' → e ≤ e' → (s : Site) → SiteBelow v e s → SiteBelow v' e' s
site_more v v' e e' l m s b = (all_more v v' l s.vars b.0, right_more e e' m s.right b.1)

transitions_more : (e e' : ℕ) → e ≤ e' → (ts : List Transition) → All (λ (t : Transition). t.cond < e) ts → All (λ (t : Transition). t.cond < e') ts
transitions_more e e' l ts b = All-weaker (λ (t : Transition). t.cond < e) (λ (t : Transition). t.cond < e') (λ t h. omega (arith, l, h)) ts b

guards_more : (e e' : ℕ) → e ≤ e' → (gs : List (ℕ × List Transition)) → GuardsBelow e gs → GuardsBelow e' gs
guards_more e e' l gs b = All-weaker (λ (s : ℕ × List Transition). All (λ (t : Transition). t.cond < e) s.1) (λ (s : ℕ × List Transition). All (λ (t : Transition). t.cond < e') s.1)
    (λ s h. transitions_more e e' l s.1 h) gs b

named_more : (v v' e e' : ℕ) → v ≤ v' → e ≤ e' → (n : Named) → NamedBelow v e n → NamedBelow v' e' n
named_more v v' e e' l m (named.Clock x) b = omega (arith, l, b)
named_more v v' e e' l m (named.Match k all p) b = omega (arith, m, b)
named_more v v' e e' l m (named.Present xs p) b = b
named_more v v' e e' l m (named.Active gs p) b = guards_more e e' m gs b
named_more v v' e e' l m (named.Tested gs p) b = guards_more e e' m gs b

-- ---- variables that are bound

-- a variable that is found is there
placed_case : (b : Bool) (k i n : ℕ) (rest : Option ℕ) → (if b then Some i else rest) ≡ Some k → (rest ≡ Some k → k < suc i + n) → k < i + suc n
placed_case true k i n rest e h = let same : i ≡ k = ap (λ o. unwrap_or o i) e in omega (arith, same)
placed_case false k i n rest e h = omega (arith, h e)

placed : (x : ℕ) (l : List InnerArm) (vs : List Variable) (i k : ℕ) → place_of x l vs i ≡ Some k → k < i + length vs
placed x l [] i k e = absurd (cc)
placed x l (v ∷ vs) i k e = placed_case (v.name == x && same_arms v.list l) k i (length vs) (place_of x l vs (suc i)) e (placed x l vs (suc i) k)

-- bound names grow, and have variables
pub record Binds (b c : Bound) : Type 0 where
  pub more : length b.0 ≤ length c.0
  pub kept : AllBelow (length b.0) b.1 → AllBelow (length c.0) c.1

longer : {A : Type 0} (xs : List A) (x : A) → length (xs ++ x ∷ []) ≡ length xs + 1
longer xs x = length-append xs (x ∷ [])

bind_case : (x : ℕ) (signal : Bool) (w : Where) (b : Bound) (o : Option ℕ) → ((k : ℕ) → o ≡ Some k → k < length b.0) → Binds b (bind_at x signal w b o)
bind_case x signal w b (Some k) h = record { more = omega arith; kept = λ a. All-push (λ j. j < length b.0) b.1 k a (h k refl) }
bind_case x signal w b None h =
    let v : Variable = record { name = x; list = arms (spot w); place = spot w; signal = signal } in
    let long = longer b.0 v in
    record {
      more = omega (arith, long);
      kept = λ a. All-push (λ j. j < length (b.0 ++ v ∷ [])) b.1 (length b.0) (all_more (length b.0) (length (b.0 ++ v ∷ [])) (omega (arith, long)) b.1 a) (omega (arith, long));
    }

bind_binds : (x : ℕ) (signal : Bool) (w : Where) (b : Bound) → Binds b (bind x signal w b)
bind_binds x signal w b = bind_case x signal w b (place_of x (arms (spot w)) b.0 0) (λ k e. let h = placed x (arms (spot w)) b.0 0 k e in omega (arith, h))

binds_on : (b c d : Bound) → Binds b c → Binds c d → Binds b d
binds_on b c d p q = record { more = (let l = p.more in let m = q.more in omega (arith, l, m)); kept = λ a. q.kept (p.kept a) }

all_binds : (xs : List ℕ) (signal : Bool) (w : Where) (b : Bound) → Binds b (bind_all xs signal w b)
all_binds [] signal w b = record { more = omega arith; kept = λ a. a }
all_binds (x ∷ xs) signal w b = binds_on b (bind x signal w b) (bind_all xs signal w (bind x signal w b)) (bind_binds x signal w b) (all_binds xs signal w (bind x signal w b))

module _ (N : Type 0) where
  -- from what was found to what is found then
  pub record Goes (f g : Places.Found N) : Type 0 where
    pub vars : length f.vars ≤ length g.vars
    pub exprs : length f.exprs ≤ length g.exprs
    pub kept : InRange f → InRange g

  goes_on : (f g h : Places.Found N) → Goes f g → Goes g h → Goes f h
  goes_on f g h p q = record {
    vars = (let l = p.vars in let m = q.vars in omega (arith, l, m));
    exprs = (let l = p.exprs in let m = q.exprs in omega (arith, l, m));
    kept = λ r. q.kept (p.kept r);
  }

  goes_nowhere : (f : Places.Found N) → Goes f f
  goes_nowhere f = record { vars = omega arith; exprs = omega arith; kept = λ r. r }

  -- the same, with all many variables and expressions at least
  wider : (v v' e e' : ℕ) (f : Places.Found N) → v ≤ v' → e ≤ e'
      → All (SiteBelow v e) f.sites → All (SiteBelow v' e') f.sites
  wider v v' e e' f l m b = All-weaker (SiteBelow v e) (SiteBelow v' e') (λ s h. site_more v v' e e' l m s h) f.sites b

  starts_more : (e e' : ℕ) → e ≤ e' → (all : List Start) → All (λ (s : Start). s.right < e) all → All (λ (s : Start). s.right < e') all
  starts_more e e' l all b = All-weaker (λ (s : Start). s.right < e) (λ (s : Start). s.right < e') (λ s h. omega (arith, l, h)) all b

  names_more : (v v' e e' : ℕ) → v ≤ v' → e ≤ e' → (all : List Named) → All (NamedBelow v e) all → All (NamedBelow v' e') all
  names_more v v' e e' l m all b = All-weaker (NamedBelow v e) (NamedBelow v' e') (λ n h. named_more v v' e e' l m n h) all b

  read_goes : (e : Expr N) (p : Places.Place) (f : Places.Found N) → Goes f (Places.reading N e p f)
  read_goes e p f =
      let one : ℕ = length f.exprs in
      let two : ℕ = length (Places.reading N e p f).exprs in
      let v : ℕ = length f.vars in
      let long : two ≡ one + 1 = length-append f.exprs _ in
      let up : one ≤ two = omega (arith, long) in
      let same : v ≤ v = omega arith in
      record {
        vars = same;
        exprs = up;
        kept = λ r. record {
          sites = wider v v one two f same up r.sites;
          starts = starts_more one two up f.starts r.starts;
          names = names_more v v one two same up f.names r.names;
          resets = all_more one two up f.resets r.resets;
        };
      }

  name_goes : (n : Named) (f : Places.Found N) → NamedBelow (length f.vars) (length f.exprs) n → Goes f (Places.naming N n f)
  name_goes n f b = record {
    vars = omega arith;
    exprs = omega arith;
    kept = λ r. record { sites = r.sites; starts = r.starts; names = All-push (NamedBelow (length f.vars) (length f.exprs)) f.names n r.names b; resets = r.resets };
  }

  site_goes : (xs : List ℕ) (signal : Bool) (right : Right) (w : Where) (f : Places.Found N) → RightBelow (length f.exprs) right
      → Goes f (Places.site_at N xs signal right w f)
  site_goes xs signal right w f below =
      let b : Bound = bind_all xs signal w (f.vars, []) in
      let grown : Binds (f.vars, []) b = all_binds xs signal w (f.vars, []) in
      let up : length f.vars ≤ length b.0 = grown.more in
      let e : ℕ = length f.exprs in
      let same : e ≤ e = omega arith in
      record {
        vars = up;
        exprs = same;
        kept = λ r. record {
          sites = All-push (SiteBelow (length b.0) e) f.sites _ (wider (length f.vars) (length b.0) e e f up same r.sites) (grown.kept (All-nil (λ k. k < length f.vars)), below);
          starts = r.starts;
          names = names_more (length f.vars) (length b.0) e e up same f.names r.names;
          resets = r.resets;
        };
      }

  next_read : (e : Expr N) (p : Places.Place) (f : Places.Found N) → Places.next_expr N f < length (Places.reading N e p f).exprs
  next_read e p f = let long = length-append f.exprs ((record { expr = e; place = p }) ∷ []) in omega (arith, long)

  plain_goes : (p : Pat) (signal : Bool) (e : Expr N) (w : Where) (f : Places.Found N) → Goes f (Places.plain_at N p signal e w f)
  plain_goes p signal e w f = goes_on f (Places.reading N e w.place f) (Places.plain_at N p signal e w f) (read_goes e w.place f)
      (site_goes (names_of p) signal (rhs.Part p (Places.next_expr N f)) w (Places.reading N e w.place f) (next_read e w.place f))

  whole_goes : (x : ℕ) (signal : Bool) (e : Expr N) (w : Where) (f : Places.Found N) → Goes f (Places.whole_at N x signal e w f)
  whole_goes x signal e w f = goes_on f (Places.reading N e w.place f) (Places.whole_at N x signal e w f) (read_goes e w.place f)
      (site_goes (x ∷ []) signal (rhs.Whole (Places.next_expr N f)) w (Places.reading N e w.place f) (next_read e w.place f))

  start_goes : (x : ℕ) (e : Expr N) (w : Where) (f : Places.Found N) → Goes f (Places.start_at N x e w f)
  start_goes x e w f =
      let one : ℕ = length f.exprs in
      let two : ℕ = length (Places.start_at N x e w f).exprs in
      let v : ℕ = length f.vars in
      let long : two ≡ one + 1 = length-append f.exprs _ in
      let up : one ≤ two = omega (arith, long) in
      let same : v ≤ v = omega arith in
      let here : one < two = omega (arith, long) in
      record {
        vars = same;
        exprs = up;
        kept = λ r. record {
          sites = wider v v one two f same up r.sites;
          starts = All-push (λ (s : Start). s.right < two) f.starts _ (starts_more one two up f.starts r.starts) here;
          names = names_more v v one two same up f.names r.names;
          resets = all_more one two up f.resets r.resets;
        };
      }

  reset_goes : (e : Expr N) (w : Where) (f : Places.Found N) → Goes f (Places.open_reset N e w f)
  reset_goes e w f =
      let one : ℕ = length f.exprs in
      let two : ℕ = length (Places.open_reset N e w f).exprs in
      let v : ℕ = length f.vars in
      let long : two ≡ one + 1 = length-append f.exprs _ in
      let up : one ≤ two = omega (arith, long) in
      let same : v ≤ v = omega arith in
      let here : one < two = omega (arith, long) in
      record {
        vars = same;
        exprs = up;
        kept = λ r. record {
          sites = wider v v one two f same up r.sites;
          starts = starts_more one two up f.starts r.starts;
          names = names_more v v one two same up f.names r.names;
          resets = All-push (λ k. k < two) f.resets one (all_more one two up f.resets r.resets) here;
        };
      }

  -- ---- the variable of a clock

  some_below : (o : Option ℕ) (n : ℕ) → ((k : ℕ) → o ≡ Some k → k < n) → 0 < n → unwrap_or o 0 < n
  some_below None n h z = z
  some_below (Some k) n h z = h k refl

  bound_case : (x : ℕ) (signal : Bool) (w : Where) (b : Bound) (o : Option ℕ) → ((k : ℕ) → o ≡ Some k → k < length b.0) → 0 < length (bind_at x signal w b o).0
  bound_case x signal w b (Some k) h = let l = h k refl in omega (arith, l)
  bound_case x signal w b None h =
      let long = longer b.0 (record { name = x; list = arms (spot w); place = spot w; signal = signal }) in
      omega (arith, long)

  clock_goes : (x : ℕ) (e : Expr N) (w : Where) (f : Places.Found N) → Goes f (Places.clock_at N x w (Places.whole_at N x false e w f))
  clock_goes x e w f =
      let g : Places.Found N = Places.whole_at N x false e w f in
      goes_on f g (Places.clock_at N x w g) (whole_goes x false e w f)
      (name_goes (named.Clock (unwrap_or (place_of x (arms (spot w)) g.vars 0) 0)) g
      (some_below (place_of x (arms (spot w)) g.vars 0) (length g.vars) (λ k s. let h = placed x (arms (spot w)) g.vars 0 k s in omega (arith, h))
      (bound_case x false w (f.vars, []) (place_of x (arms (spot w)) f.vars 0) (λ k s. let h = placed x (arms (spot w)) f.vars 0 k s in omega (arith, h)))))

  -- ---- blocks

  match_goes : (e : Expr N) (all : List (Option ℕ)) (w : Where) (f : Places.Found N) → Goes f (Places.open_match N e all w f)
  match_goes e all w f = goes_on f (Places.reading N e w.place f) (Places.open_match N e all w f) (read_goes e w.place f)
      (name_goes (named.Match (Places.next_expr N f) all w.place) (Places.reading N e w.place f) (next_read e w.place f))

  open_goes : (p : Places.Place) (f : Places.Found N) → Goes f (Places.open_modes N p f)
  open_goes p f =
      let g : Places.Found N = Places.naming N (named.Active [] p) f in
      goes_on f g (Places.open_modes N p f) (name_goes (named.Active [] p) f (All-nil _)) (name_goes (named.Tested [] p) g (All-nil _))

  close_goes : (k : ℕ) (strong weak : Places.Guards N) (p : Places.Place) (f : Places.Found N) → GuardsBelow (length f.exprs) strong → GuardsBelow (length f.exprs) weak
      → Goes f (Places.close_modes N k strong weak p f)
  close_goes k strong weak p f s t =
      let P : Named → Type 0 = NamedBelow (length f.vars) (length f.exprs) in
      record {
        vars = omega arith;
        exprs = omega arith;
        kept = λ r. record {
          sites = r.sites;
          starts = r.starts;
          names = All-set P (slice_set f.names k (named.Active strong p)) (k + 1) (named.Tested weak p) t (All-set P f.names k (named.Active strong p) s r.names);
          resets = r.resets;
        };
      }

  pattern_goes : (s : ℕ) (o : Option Pat) (w : Where) (f : Places.Found N) → Goes f (Places.bind_pattern N s o w f)
  pattern_goes s None w f = goes_nowhere f
  pattern_goes s (Some p) w f = site_goes (names_of p) false (rhs.Pattern s p) w f tt

  -- ---- walks

  abbrev pub GoodWalk : Places.Walk N → Type 0
  GoodWalk walk = (w : Where) (f : Places.Found N) → Goes f (walk w f)

  abbrev pub GoodArm : Places.InArm N → Type 0
  GoodArm walk = (m j : ℕ) (w : Where) (f : Places.Found N) → Goes f (walk m j w f)

  -- the transitions that are found inside are those of expressions that are found by then
  abbrev TransitionsBelow : Places.Inside N (List Transition) → Places.InArm N → Type 0
  TransitionsBelow ts walk = (m j : ℕ) (w : Where) (f : Places.Found N) → All (λ (t : Transition). t.cond < length (walk m j w f).exprs) (ts m j w f)

  abbrev pub GoodGuard : Places.AGuard N → Type 0
  GoodGuard g = GoodArm g.walk × ((m j : ℕ) (w : Where) (f : Places.Found N) → (g.transition m j w f).cond < length (g.walk m j w f).exprs)

  abbrev pub GoodState : Places.AState N → Type 0
  GoodState s = GoodArm s.walk × (TransitionsBelow s.strong s.walk × TransitionsBelow s.weak s.walk)

  abbrev EachArm : List (Places.InArm N) → Type 0
  EachArm [] = Unit {0}
  EachArm (a ∷ all) = GoodArm a × EachArm all

  abbrev EachWalk : List (Places.Walk N) → Type 0
  EachWalk [] = Unit {0}
  EachWalk (a ∷ all) = GoodWalk a × EachWalk all

  abbrev EachGuard : List (Places.AGuard N) → Type 0
  EachGuard [] = Unit {0}
  EachGuard (a ∷ all) = GoodGuard a × EachGuard all

  abbrev EachState : List (Places.AState N) → Type 0
  EachState [] = Unit {0}
  EachState (a ∷ all) = GoodState a × EachState all

  each_both : (all bs : List (Places.InArm N)) → EachArm all → EachArm bs → EachArm (all ++ bs)
  each_both [] bs h k = k
  each_both (a ∷ all) bs h k = (h.0, each_both all bs h.1 k)

  walks_go : (all : List (Places.Walk N)) → EachWalk all → GoodWalk (Places.walk_all N all)
  walks_go [] h w f = goes_nowhere f
  walks_go (a ∷ all) h w f = goes_on f (a w f) (Places.walk_all N all w (a w f)) (h.0 w f) (walks_go all h.1 w (a w f))

  arms_go : (all : List (Places.InArm N)) → EachArm all → (m j : ℕ) (w : Where) (f : Places.Found N) → Goes f (Places.arms_from N m j all w f)
  arms_go [] h m j w f = goes_nowhere f
  arms_go (a ∷ all) h m j w f = goes_on f (a m j w f) (Places.arms_from N m (suc j) all w (a m j w f)) (h.0 m j w f) (arms_go all h.1 m (suc j) w (a m j w f))

  guards_go : (all : List (Places.AGuard N)) → EachGuard all → GoodArm (Places.walk_guards N all)
  guards_go [] h m j w f = goes_nowhere f
  guards_go (a ∷ all) h m j w f = goes_on f (a.walk m j w f) (Places.walk_guards N all m j w (a.walk m j w f)) (h.0.0 m j w f) (guards_go all h.1 m j w (a.walk m j w f))

  guards_below : (all : List (Places.AGuard N)) → EachGuard all → TransitionsBelow (Places.transitions N all) (Places.walk_guards N all)
  guards_below [] h m j w f = All-nil _
  guards_below (a ∷ all) h m j w f =
      let now = h.0.1 m j w f in
      let after = (guards_go all h.1 m j w (a.walk m j w f)).exprs in
      All-cons (λ (t : Transition). t.cond < length (Places.walk_guards N (a ∷ all) m j w f).exprs) (a.transition m j w f) (Places.transitions N all m j w (a.walk m j w f))
      (omega (arith, now, after)) (guards_below all h.1 m j w (a.walk m j w f))

  state_arms : (all : List (Places.AState N)) → EachState all → EachArm (Places.state_walks N all)
  state_arms [] h = tt
  state_arms (a ∷ all) h = (h.0.0, state_arms all h.1)

  strongs_below : (all : List (Places.AState N)) → EachState all → (m j : ℕ) (w : Where) (f : Places.Found N)
      → GuardsBelow (length (Places.arms_from N m j (Places.state_walks N all) w f).exprs) (Places.strongs_from N m j all w f)
  strongs_below [] h m j w f = All-nil _
  strongs_below (a ∷ all) h m j w f =
      let one : ℕ = length (a.walk m j w f).exprs in
      let two : ℕ = length (Places.arms_from N m j (Places.state_walks N (a ∷ all)) w f).exprs in
      let after : one ≤ two = (arms_go (Places.state_walks N all) (state_arms all h.1) m (suc j) w (a.walk m j w f)).exprs in
      All-cons (λ (s : ℕ × List Transition). All (λ (t : Transition). t.cond < two) s.1) (a.name, a.strong m j w f) (Places.strongs_from N m (suc j) all w (a.walk m j w f))
      (transitions_more one two after (a.strong m j w f) (h.0.1.0 m j w f)) (strongs_below all h.1 m (suc j) w (a.walk m j w f))

  weaks_below : (all : List (Places.AState N)) → EachState all → (m j : ℕ) (w : Where) (f : Places.Found N)
      → GuardsBelow (length (Places.arms_from N m j (Places.state_walks N all) w f).exprs) (Places.weaks_from N m j all w f)
  weaks_below [] h m j w f = All-nil _
  weaks_below (a ∷ all) h m j w f =
      let one : ℕ = length (a.walk m j w f).exprs in
      let two : ℕ = length (Places.arms_from N m j (Places.state_walks N (a ∷ all)) w f).exprs in
      let after : one ≤ two = (arms_go (Places.state_walks N all) (state_arms all h.1) m (suc j) w (a.walk m j w f)).exprs in
      All-cons (λ (s : ℕ × List Transition). All (λ (t : Transition). t.cond < two) s.1) (a.name, a.weak m j w f) (Places.weaks_from N m (suc j) all w (a.walk m j w f))
      (transitions_more one two after (a.weak m j w f) (h.0.1.1 m j w f)) (weaks_below all h.1 m (suc j) w (a.walk m j w f))

  module _ (first : ℕ) (cases : ℕ → Option ℕ) (signal : Expr N → Bool) where
    automaton_goes : (all : List (Places.AState N)) → EachState all → (w : Where) (f : Places.Found N)
        → Goes f (Places.automaton_at N first cases signal all w f (Places.open_modes N w.place f))
    automaton_goes all h w f =
        let m : ℕ = Places.next N first cases signal f in
        let opened : Places.Found N = Places.open_modes N w.place f in
        let done : Places.Found N = Places.arms_from N m 0 (Places.state_walks N all) w opened in
        goes_on f opened _ (open_goes w.place f)
        (goes_on opened done _ (arms_go (Places.state_walks N all) (state_arms all h) m 0 w opened)
        (close_goes (length f.names) (Places.strongs_from N m 0 all w opened) (Places.weaks_from N m 0 all w opened) w.place done
        (strongs_below all h m 0 w opened) (weaks_below all h m 0 w opened)))

    -- ---- one layer

    abbrev equation_step : Equation-F N (Places.Walk N) (Places.AnArm N) (Places.AGuard N) (Places.InArm N) (Places.AState N) (Places.ATest N) → Places.Walk N
    equation_step = Places.equation_step N first cases signal

    abbrev EquationGood : Equation N → Type 0
    EquationGood x = GoodWalk (Places.walk_of N first cases signal x)

    abbrev ArmGood : Arm N → Type 0
    ArmGood x = GoodArm (Places.arm_of N first cases signal x).walk

    abbrev GuardGood : Guard N → Type 0
    GuardGood x = GoodGuard (Places.guard_of N first cases signal x)

    abbrev HandlerGood : Handler N → Type 0
    HandlerGood x = GoodArm (Places.handler_of N first cases signal x)

    abbrev StateGood : State N → Type 0
    StateGood x = GoodState (Places.state_of N first cases signal x)

    abbrev TestGood : Test N → Type 0
    TestGood x = GoodArm (Places.test_of N first cases signal x).walk

    abbrev WEquation : Type 0
    WEquation = (x : Equation N) × EquationGood x

    abbrev WArm : Type 0
    WArm = (x : Arm N) × ArmGood x

    abbrev WGuard : Type 0
    WGuard = (x : Guard N) × GuardGood x

    abbrev WHandler : Type 0
    WHandler = (x : Handler N) × HandlerGood x

    abbrev WState : Type 0
    WState = (x : State N) × StateGood x

    abbrev WTest : Type 0
    WTest = (x : Test N) × TestGood x

    abbrev equations_of : List WEquation → List (Equation N)
    equations_of = map {A = WEquation} {B = Equation N} (λ q. q.0)

    abbrev guards_of : List WGuard → List (Guard N)
    guards_of = map {A = WGuard} {B = Guard N} (λ q. q.0)

    each_walk : (ps : List WEquation) → EachWalk (map (Places.walk_of N first cases signal) (equations_of ps))
    each_walk [] = tt
    each_walk (p ∷ ps) = (p.1, each_walk ps)

    each_arm : (ps : List WArm) → EachArm (Places.arm_walks N (map (Places.arm_of N first cases signal) (map {A = WArm} {B = Arm N} (λ q. q.0) ps)))
    each_arm [] = tt
    each_arm (p ∷ ps) = (p.1, each_arm ps)

    each_guard : (ps : List WGuard) → EachGuard (map (Places.guard_of N first cases signal) (guards_of ps))
    each_guard [] = tt
    each_guard (p ∷ ps) = (p.1, each_guard ps)

    each_state : (ps : List WState) → EachState (map (Places.state_of N first cases signal) (map {A = WState} {B = State N} (λ q. q.0) ps))
    each_state [] = tt
    each_state (p ∷ ps) = (p.1, each_state ps)

    each_test : (ps : List WTest) → EachArm (Places.test_walks N (map (Places.test_of N first cases signal) (map {A = WTest} {B = Test N} (λ q. q.0) ps)))
    each_test [] = tt
    each_test (p ∷ ps) = (p.1, each_test ps)

    abbrev bottom : Equation-F N WEquation WArm WGuard WHandler WState WTest → Equation-F N (Equation N) (Arm N) (Guard N) (Handler N) (State N) (Test N)
    bottom y = map-Equation N WEquation WArm WGuard WHandler WState WTest (Equation N) (Arm N) (Guard N) (Handler N) (State N) (Test N) (λ q. q.0) (λ q. q.0) (λ q. q.0) (λ q. q.0) (λ q. q.0) (λ q. q.0) y

    abbrev walked : Equation-F N (Equation N) (Arm N) (Guard N) (Handler N) (State N) (Test N) → Places.Walk N
    walked x = equation_step (map-Equation N (Equation N) (Arm N) (Guard N) (Handler N) (State N) (Test N) (Places.Walk N) (Places.AnArm N) (Places.AGuard N) (Places.InArm N) (Places.AState N) (Places.ATest N)
        (Places.walk_of N first cases signal) (Places.arm_of N first cases signal) (Places.guard_of N first cases signal) (Places.handler_of N first cases signal) (Places.state_of N first cases signal) (Places.test_of N first cases signal) x)

    layer_goes : (y : Equation-F N WEquation WArm WGuard WHandler WState WTest) → GoodWalk (walked (bottom y))
    layer_goes (Equation-F.Plain p e) w f = plain_goes p (signal e) e w f
    layer_goes (Equation-F.Clock x e) w f = clock_goes x.0 e w f
    layer_goes (Equation-F.Initial x e) w f = start_goes x.0 e w f
    layer_goes (Equation-F.Emit x e) w f = whole_goes x.0 true e w f
    layer_goes (Equation-F.Reset ps e) w f = goes_on f (Places.open_reset N e w f) _ (reset_goes e w f)
        (walks_go (map (Places.walk_of N first cases signal) (equations_of ps)) (each_walk ps) (Places.in_reset (length f.resets) w) (Places.open_reset N e w f))
    layer_goes (Equation-F.Match e ps) w f = goes_on f (Places.open_match N e _ w f) _ (match_goes e _ w f)
        (arms_go _ (each_arm ps) (Places.next N first cases signal f) 0 w (Places.open_match N e _ w f))
    layer_goes (Equation-F.Present ps None) w f = goes_on f (Places.open_present N _ w f) _ (name_goes _ f tt)
        (arms_go _ (each_both _ [] (each_test ps) tt) (Places.next N first cases signal f) 0 w (Places.open_present N _ w f))
    layer_goes (Equation-F.Present ps (Some h)) w f = goes_on f (Places.open_present N _ w f) _ (name_goes _ f tt)
        (arms_go _ (each_both _ (Places.handler_of N first cases signal h.0 ∷ []) (each_test ps) (h.1, tt)) (Places.next N first cases signal f) 0 w (Places.open_present N _ w f))
    layer_goes (Equation-F.Automaton ps) w f = automaton_goes _ (each_state ps) w f

    equation_good : (y : Equation-F N WEquation WArm WGuard WHandler WState WTest) → EquationGood (roll-Equation N (bottom y))
    equation_good y = subst GoodWalk (sym (fold-roll-Equation N (Places.Walk N) (Places.AnArm N) (Places.AGuard N) (Places.InArm N) (Places.AState N) (Places.ATest N)
        (Places.equation_step N first cases signal) (Places.arm_step N first cases signal) (Places.guard_step N first cases signal)
        (Places.handler_step N first cases signal) (Places.state_step N first cases signal) (Places.test_step N first cases signal) (bottom y))) (layer_goes y)

    arm_good : (y : Arm-F N WEquation WArm WGuard WHandler WState WTest) → ArmGood (roll-Arm N (record { case = y.case; handler = y.handler.0 }))
    arm_good y = subst (λ (a : Places.AnArm N). GoodArm a.walk) (sym (fold-roll-Arm N (Places.Walk N) (Places.AnArm N) (Places.AGuard N) (Places.InArm N) (Places.AState N) (Places.ATest N)
        (Places.equation_step N first cases signal) (Places.arm_step N first cases signal) (Places.guard_step N first cases signal)
        (Places.handler_step N first cases signal) (Places.state_step N first cases signal) (Places.test_step N first cases signal) (record { case = y.case; handler = y.handler.0 }))) y.handler.1

    test_good : (y : Test-F N WEquation WArm WGuard WHandler WState WTest) → TestGood (roll-Test N (record { signal = y.signal; pat = y.pat; handler = y.handler.0 }))
    test_good y = subst (λ (a : Places.ATest N). GoodArm a.walk) (sym (fold-roll-Test N (Places.Walk N) (Places.AnArm N) (Places.AGuard N) (Places.InArm N) (Places.AState N) (Places.ATest N)
        (Places.equation_step N first cases signal) (Places.arm_step N first cases signal) (Places.guard_step N first cases signal)
        (Places.handler_step N first cases signal) (Places.state_step N first cases signal) (Places.test_step N first cases signal) (record { signal = y.signal; pat = y.pat; handler = y.handler.0 })))
        (λ m j w f. goes_on f (Places.bind_pattern N y.signal.0 y.pat (Places.in_let m j w) f) _ (pattern_goes y.signal.0 y.pat (Places.in_let m j w) f)
        (y.handler.1 m j w (Places.bind_pattern N y.signal.0 y.pat (Places.in_let m j w) f)))

    handler_good : (y : Handler-F N WEquation WArm WGuard WHandler WState WTest) → HandlerGood (roll-Handler N (record { locals = equations_of y.locals; eqs = equations_of y.eqs }))
    handler_good y = subst GoodArm (sym (fold-roll-Handler N (Places.Walk N) (Places.AnArm N) (Places.AGuard N) (Places.InArm N) (Places.AState N) (Places.ATest N)
        (Places.equation_step N first cases signal) (Places.arm_step N first cases signal) (Places.guard_step N first cases signal)
        (Places.handler_step N first cases signal) (Places.state_step N first cases signal) (Places.test_step N first cases signal) (record { locals = equations_of y.locals; eqs = equations_of y.eqs })))
        (λ m j w f. goes_on f (Places.walk_all N (map (Places.walk_of N first cases signal) (equations_of y.locals)) (Places.in_let m j w) f) _
        (walks_go _ (each_walk y.locals) (Places.in_let m j w) f)
        (walks_go _ (each_walk y.eqs) (Places.in_do m j w) (Places.walk_all N (map (Places.walk_of N first cases signal) (equations_of y.locals)) (Places.in_let m j w) f)))

    guard_good : (y : Guard-F N WEquation WArm WGuard WHandler WState WTest) → GuardGood (roll-Guard N (record { eqs = equations_of y.eqs; cond = y.cond; restart = y.restart; target = y.target }))
    guard_good y = subst GoodGuard (sym (fold-roll-Guard N (Places.Walk N) (Places.AnArm N) (Places.AGuard N) (Places.InArm N) (Places.AState N) (Places.ATest N)
        (Places.equation_step N first cases signal) (Places.arm_step N first cases signal) (Places.guard_step N first cases signal)
        (Places.handler_step N first cases signal) (Places.state_step N first cases signal) (Places.test_step N first cases signal) (record { eqs = equations_of y.eqs; cond = y.cond; restart = y.restart; target = y.target }))) (
          (λ m j w f. goes_on f (Places.walk_all N (map (Places.walk_of N first cases signal) (equations_of y.eqs)) (Places.in_let m j w) f) _
              (walks_go _ (each_walk y.eqs) (Places.in_let m j w) f)
              (read_goes y.cond (Places.in_let m j w).place (Places.walk_all N (map (Places.walk_of N first cases signal) (equations_of y.eqs)) (Places.in_let m j w) f))),
          (λ m j w f. next_read y.cond (Places.in_let m j w).place (Places.walk_all N (map (Places.walk_of N first cases signal) (equations_of y.eqs)) (Places.in_let m j w) f)),
        )

    state_good : (y : State-F N WEquation WArm WGuard WHandler WState WTest) → StateGood (roll-State N (record { name = y.name; handler = y.handler.0; strong = guards_of y.strong; weak = guards_of y.weak }))
    state_good y =
        let strong : List (Places.AGuard N) = map (Places.guard_of N first cases signal) (guards_of y.strong) in
        let weak : List (Places.AGuard N) = map (Places.guard_of N first cases signal) (guards_of y.weak) in
        let inside : Places.InArm N = Places.handler_of N first cases signal y.handler.0 in
        subst GoodState (sym (fold-roll-State N (Places.Walk N) (Places.AnArm N) (Places.AGuard N) (Places.InArm N) (Places.AState N) (Places.ATest N)
        (Places.equation_step N first cases signal) (Places.arm_step N first cases signal) (Places.guard_step N first cases signal)
        (Places.handler_step N first cases signal) (Places.state_step N first cases signal) (Places.test_step N first cases signal) (record { name = y.name; handler = y.handler.0; strong = guards_of y.strong; weak = guards_of y.weak }))) (
          (λ m j w f. goes_on f (inside m j w f) _ (y.handler.1 m j w f)
              (goes_on (inside m j w f) (Places.walk_guards N strong (m + 1) j w (inside m j w f)) _ (guards_go strong (each_guard y.strong) (m + 1) j w (inside m j w f))
              (guards_go weak (each_guard y.weak) m j w (Places.walk_guards N strong (m + 1) j w (inside m j w f))))),
          (
            (λ m j w f. transitions_more (length (Places.walk_guards N strong (m + 1) j w (inside m j w f)).exprs) _
                (guards_go weak (each_guard y.weak) m j w (Places.walk_guards N strong (m + 1) j w (inside m j w f))).exprs
                (Places.transitions N strong (m + 1) j w (inside m j w f)) (guards_below strong (each_guard y.strong) (m + 1) j w (inside m j w f))),
            (λ m j w f. guards_below weak (each_guard y.weak) m j w (Places.walk_guards N strong (m + 1) j w (inside m j w f))),
          ),
        )

    equations_good : (x : Equation N) → EquationGood x
    equations_good = ind-Equation N EquationGood ArmGood GuardGood HandlerGood StateGood TestGood
        (λ x y from. subst (λ z. EquationGood (roll-Equation N z)) from (equation_good y))
        (λ x y from. subst (λ z. ArmGood (roll-Arm N z)) from (arm_good y))
        (λ x y from. subst (λ z. GuardGood (roll-Guard N z)) from (guard_good y))
        (λ x y from. subst (λ z. HandlerGood (roll-Handler N z)) from (handler_good y))
        (λ x y from. subst (λ z. StateGood (roll-State N z)) from (state_good y))
        (λ x y from. subst (λ z. TestGood (roll-Test N z)) from (test_good y))

    each_equation : (xs : List (Equation N)) → EachWalk (map (Places.walk_of N first cases signal) xs)
    each_equation [] = tt
    each_equation (x ∷ xs) = (equations_good x, each_equation xs)

    -- what is found in a body is in range
    pub found_in_range : (b : BodyOf N) → InRange (Places.find N first cases signal b)
    found_in_range b =
        let walked : Places.Found N = Places.walk_body N first cases signal b.eqs Places.at_top (Places.nothing N) in
        (read_goes b.result [] walked).kept ((walks_go _ (each_equation b.eqs) Places.at_top (Places.nothing N)).kept
        (record { sites = All-nil _; starts = All-nil _; names = All-nil _; resets = All-nil _ }))
