-- The arms in a body are those of its blocks, and each name that scope takes for a clock name has one.
use Rattle.std.specs.Prelude.{◌≡◌, refl, ℕ, zero, suc, ◌+◌, ◌-◌, ◌==◌, ◌&&◌, ◌||◌, not, nat_lt, Bool, true, false, List, [], ◌∷◌, ◌++◌, map, length, slice_set, Option, Some, None, option_map, unwrap_or, if◌then◌else◌}
use Rattle.std.specs.List.{list_any}
use Rattle.std.proofs.Common.{ap, ap₂, sym, ◌∙◌, subst, arith, append_assoc}
use Rattle.std.proofs.lemmas.Bool.{ltb-true}
use Rattle.ls_ast.specs.declared.tree.Pat.{Pat}
use Rattle.ls_ast.specs.declared.tree.BodyOf.{BodyOf}
use Rattle.ls_ast.specs.declared.tree.Expr.{Expr}
use Rattle.ls_ast.specs.declared.tree.Form.{Form}
use Rattle.ls_ast.specs.declared.tree.Form.TheOpen.{Form-F}
use Rattle.ls_ast.specs.declared.tree.Equation.{Equation}
use Rattle.ls_ast.specs.declared.tree.Equation.TheOpen.{Equation-F, Arm-F, Guard-F, Handler-F, State-F, Test-F}
use Rattle.ls_sig.specs.declared.binder.Note.{Note}
use Rattle.ls_places.specs.Patterns as FP
use Rattle.ls_places.specs.Places as F
use Rattle.ls_places.specs.Search.{nth}
use Rattle.ls_places.specs.declared.around.Where as around_of
use Rattle.ls_places.specs.declared.places.Frame.TheVariants as frame
use Rattle.ls_places.specs.declared.places.Named.{Named}
use Rattle.ls_places.specs.declared.places.Named.TheVariants as named
use Rattle.ls_places.specs.declared.places.Right.{Right}
use Rattle.ls_places.specs.declared.places.Right.TheVariants as rhs
use Rattle.ls_places.specs.declared.places.Variable.{Variable}
use Rattle.ls_places.specs.declared.places.Whole.{Whole}
use Rattle.tree_notes.specs.Each.{Each}
use Rattle.tree_notes.proofs.RelatedEquations.{related_equations, lefts_Equation, lefts_Arm, lefts_Guard, lefts_Handler, lefts_State, lefts_Test, rights_Equation, rights_Arm, rights_Guard, rights_Handler, rights_State, rights_Test}
use Rattle.scope_rules.specs.Places as P
use Rattle.scope_rules.specs.Places.{Place, reads, tests, stream}
use Rattle.scope_rules.specs.declared.claims.Stand.{Stand}
use Rattle.scope_rules.specs.declared.claims.Stand.TheVariants.{Whole as whole}
use Rattle.scope_rules.specs.declared.places.Site.{Site}
use Rattle.scope_rules.specs.declared.places.Way.{Way}
use Rattle.scope_rules.specs.declared.places.Way.TheVariants as way
use Rattle.scope_rules.specs.declared.places.Where.{Where}
use Rattle.scope_rules.specs.Faults.{clock_way}
use Rattle.clock_rules.specs.Facts.{Facts}
use Rattle.clock_rules.specs.Rules.{is_clock_of}
use Rattle.clock_rules.specs.declared.scheme.ClockScheme.{ClockScheme}
use Rattle.clock_laws.specs.Scoped.{no_clock, is_block, ArmsNamed, SiteScoped, NamesScoped}
use Rattle.clock_premises.proofs.Lists.{differ, end_nil, map_on, each_both, each_weaker, any_on, any_end, set_at, set_next, length_end, same_number}

-- places

arms_on : (p q : F.Place) → F.arms (p ++ q) ≡ F.arms p ++ F.arms q
arms_on [] q = refl
arms_on (frame.Reset r ∷ p) q = arms_on p q
arms_on (frame.Arm m j ∷ p) q = ap (λ z. (m, j) ∷ z) (arms_on p q)

same_arms_self : (l : Place) → F.same_arms l l ≡ true
same_arms_self [] = refl
same_arms_self (a ∷ l) = ap₂ (λ x y. x && y) (same_number a.0) (ap₂ (λ x y. x && y) (same_number a.1) (same_arms_self l))

-- the variable of a name and list

abbrev is_of : ℕ → Place → Variable → Bool
is_of x l v = v.name == x && F.same_arms v.list l

kept_if : (b : Bool) (k : ℕ) (o o' : Option ℕ) (j : ℕ) → (o ≡ Some j → o' ≡ Some j) → (if b then Some k else o) ≡ Some j → (if b then Some k else o') ≡ Some j
kept_if true k o o' j h e = e
kept_if false k o o' j h e = h e

place_kept : (x : ℕ) (l : Place) (vs more : List Variable) (k j : ℕ) → F.place_of x l vs k ≡ Some j → F.place_of x l (vs ++ more) k ≡ Some j
place_kept x l [] more k j e = absurd (cc)
place_kept x l (v ∷ vs) more k j e = kept_if (is_of x l v) k (F.place_of x l vs (suc k)) (F.place_of x l (vs ++ more) (suc k)) j (place_kept x l vs more (suc k) j) e

-- it is there
record There (o : Option ℕ) : Type 0 where
  pub place : ℕ
  pub is : o ≡ Some place

there_if : (b : Bool) (k : ℕ) (o : Option ℕ) → There o → There (if b then Some k else o)
there_if true k o h = record { place = k; is = refl }
there_if false k o h = h

there_first : (b : Bool) (k : ℕ) (o : Option ℕ) → b ≡ true → There (if b then Some k else o)
there_first true k o e = record { place = k; is = refl }
there_first false k o e = absurd (cc)

there_last : (x : ℕ) (l : Place) (vs : List Variable) (v : Variable) (k : ℕ) → is_of x l v ≡ true → There (F.place_of x l (vs ++ v ∷ []) k)
there_last x l [] v k e = there_first (is_of x l v) k (F.place_of x l [] (suc k)) e
there_last x l (w ∷ vs) v k e = there_if (is_of x l w) k (F.place_of x l (vs ++ v ∷ []) (suc k)) (there_last x l vs v (suc k) e)

there_bound : (x : ℕ) (sig : Bool) (v : around_of.Where) (b : F.Bound) (o : Option ℕ) → F.place_of x (F.arms (F.spot v)) b.0 0 ≡ o → There (F.place_of x (F.arms (F.spot v)) (F.bind_at x sig v b o).0 0)
there_bound x sig v b (Some k) e = record { place = k; is = e }
there_bound x sig v b None e =
    there_last x (F.arms (F.spot v)) b.0 (record { name = x; list = F.arms (F.spot v); place = F.spot v; signal = sig }) 0 (ap₂ (λ y z. y && z) (same_number x) (same_arms_self (F.arms (F.spot v))))

-- more variables
record More {A : Type 0} (xs ys : List A) : Type 0 where
  pub list : List A
  pub is : ys ≡ xs ++ list

more_none : {A : Type 0} (xs : List A) → More xs xs
more_none xs = record { list = []; is = sym (end_nil xs) }

more_then : {A : Type 0} (xs ys zs : List A) → More xs ys → More ys zs → More xs zs
more_then xs ys zs a b = record { list = a.list ++ b.list; is = b.is ∙ ap (λ z. z ++ b.list) a.is ∙ append_assoc xs a.list b.list }

more_one : {A : Type 0} (xs : List A) (x : A) → More xs (xs ++ x ∷ [])
more_one xs x = record { list = x ∷ []; is = refl }

bind_more : (x : ℕ) (sig : Bool) (v : around_of.Where) (b : F.Bound) (o : Option ℕ) → More b.0 (F.bind_at x sig v b o).0
bind_more x sig v b (Some k) = more_none b.0
bind_more x sig v b None = more_one b.0 _

bind_all_more : (xs : List ℕ) (sig : Bool) (v : around_of.Where) (b : F.Bound) → More b.0 (F.bind_all xs sig v b).0
bind_all_more [] sig v b = more_none b.0
bind_all_more (x ∷ xs) sig v b =
    more_then b.0 (F.bind x sig v b).0 (F.bind_all xs sig v (F.bind x sig v b)).0 (bind_more x sig v b (F.place_of x (F.arms (F.spot v)) b.0 0)) (bind_all_more xs sig v (F.bind x sig v b))

-- clock names

abbrev opens : Named → Bool
opens n = no_clock (Some n)

abbrev opened : Option Bool → Bool
opened None = false
opened (Some b) = b

opened_at : (ns : List Named) (i : ℕ) → no_clock (nth ns i) ≡ opened (nth (map opens ns) i)
opened_at [] i = refl
opened_at (n ∷ ns) zero = refl
opened_at (n ∷ ns) (suc i) = opened_at ns i

nth_new : (xs : List Bool) (b : Bool) (later : List Bool) → nth (xs ++ b ∷ later) (length xs) ≡ Some b
nth_new [] b later = refl
nth_new (x ∷ xs) b later = nth_new xs b later

length_mapped : {A B : Type 0} (f : A → B) (xs : List A) → length (map f xs) ≡ length xs
length_mapped f [] = refl
length_mapped f (x ∷ xs) = ap suc (length_mapped f xs)

not_less : (n k : ℕ) → nat_lt (n + k) n ≡ false
not_less n k = by_case (nat_lt (n + k) n) refl
  where
    by_case : (b : Bool) → nat_lt (n + k) n ≡ b → b ≡ false
    by_case true e = let h = ltb-true (n + k) n e in absurd (omega (arith, h))
    by_case false e = refl

counted : {A : Type 0} (k first : ℕ) (xs : List A) (x : A) → k ≡ first + length xs → k + 1 ≡ first + length (xs ++ x ∷ [])
counted k first xs x e = let l = length_end xs x in omega (arith, e, l)

two_counted : {A : Type 0} (k first : ℕ) (xs : List A) (x y : A) → k ≡ first + length xs → k + 2 ≡ first + length ((xs ++ x ∷ []) ++ y ∷ [])
two_counted k first xs x y e = let l = length_end xs x in let m = length_end (xs ++ x ∷ []) y in omega (arith, e, l, m)

called_way : {N : Type 0} (y : Form-F N (Form N) (Expr N)) → clock_way (P.called_at y) ≡ false
called_way (Form-F.Call run x args every) = refl
called_way _ = refl

plain_way : {N : Type 0} (b : Bool) (e : Expr N) → clock_way (P.way_of b e) ≡ false
plain_way true e = called_way (P.root e)
plain_way false e = refl

module _ (schemes : List ClockScheme) (d : Facts Note) (cases : ℕ → Option ℕ) (signal : Expr Note → Bool) where
  abbrev pub first : ℕ
  first = length d.params

  abbrev C : Type 0
  C = P.Contents Note

  abbrev G : Type 0
  G = F.Found Note

  abbrev pub Arms : List F.InnerArm → Type 0
  Arms = ArmsNamed schemes d

  abbrev Block : ℕ → Type 0
  Block m = is_block schemes d m ≡ true

  abbrev pub Names : List Named → Type 0
  Names = NamesScoped schemes d

  -- the names are the first ones of the body, by their kinds
  abbrev Prefix : List Named → Type 0
  Prefix ns = (later : List Bool) × (map opens d.names ≡ map opens ns ++ later)

  prefix_back : (xs ys : List Named) → More xs ys → Prefix ys → Prefix xs
  prefix_back xs ys m p = (map opens m.list ++ p.0, p.1 ∙ ap (λ z. map opens z ++ p.0) m.is ∙ ap (λ z. z ++ p.0) (map_on opens xs m.list) ∙ append_assoc (map opens xs) (map opens m.list) p.0)

  -- the name that comes next, where it is of a block
  new_block : (xs : List Named) (n : Named) → opens n ≡ true → Prefix (xs ++ n ∷ []) → Block (first + length xs)
  new_block xs n o p =
      let path : map opens d.names ≡ map opens xs ++ opens n ∷ p.0 = p.1 ∙ ap (λ z. z ++ p.0) (map_on opens xs (n ∷ [])) ∙ append_assoc (map opens xs) (opens n ∷ []) p.0 in
      let there : nth (map opens d.names) (length xs) ≡ Some (opens n) = ap (λ z. nth z (length xs)) path ∙ ap (nth (map opens xs ++ opens n ∷ p.0)) (sym (length_mapped opens xs)) ∙ nth_new (map opens xs) (opens n) p.0 in
      let known : no_clock (nth d.names (length xs)) ≡ true = opened_at d.names (length xs) ∙ ap opened there ∙ o in
      let i : (first + length xs) - first ≡ length xs = omega arith in
      ap₂ (λ a b. not a && b) (not_less first (length xs)) (ap (λ j. no_clock (nth d.names j)) i ∙ known)

  names_on : (xs ys : List Named) → Names xs → Names ys → Names (xs ++ ys)
  names_on [] ys a b = b
  names_on (named.Clock x ∷ xs) ys a b = names_on xs ys a b
  names_on (named.Match k all p ∷ xs) ys a b = names_on xs ys a b
  names_on (named.Present s p ∷ xs) ys a b = (a.0, names_on xs ys a.1 b)
  names_on (named.Active s p ∷ named.Tested t q ∷ xs) ys a b = names_on xs ys a b
  names_on (named.Active s p ∷ []) ys a b = absurd a
  names_on (named.Active s p ∷ named.Clock x ∷ xs) ys a b = absurd a
  names_on (named.Active s p ∷ named.Match k all q ∷ xs) ys a b = absurd a
  names_on (named.Active s p ∷ named.Present t q ∷ xs) ys a b = absurd a
  names_on (named.Active s p ∷ named.Active t q ∷ xs) ys a b = absurd a
  names_on (named.Tested s p ∷ xs) ys a b = absurd a

  names_after : (xs ys : List Named) → Names xs → Names (xs ++ ys) → Names ys
  names_after [] ys a b = b
  names_after (named.Clock x ∷ xs) ys a b = names_after xs ys a b
  names_after (named.Match k all p ∷ xs) ys a b = names_after xs ys a b
  names_after (named.Present s p ∷ xs) ys a b = names_after xs ys a.1 b.1
  names_after (named.Active s p ∷ named.Tested t q ∷ xs) ys a b = names_after xs ys a b
  names_after (named.Active s p ∷ []) ys a b = absurd a
  names_after (named.Active s p ∷ named.Clock x ∷ xs) ys a b = absurd a
  names_after (named.Active s p ∷ named.Match k all q ∷ xs) ys a b = absurd a
  names_after (named.Active s p ∷ named.Present t q ∷ xs) ys a b = absurd a
  names_after (named.Active s p ∷ named.Active t q ∷ xs) ys a b = absurd a
  names_after (named.Tested s p ∷ xs) ys a b = absurd a

  -- a clock name that scope sees bound has its number
  abbrev pub HasClock : ℕ → List Named → Type 0
  HasClock k ns = list_any (is_clock_of k) ns ≡ true

  pub record Clock (x : ℕ) (l : Place) (g : G) : Type 0 where
    pub number : ℕ
    pub is : F.place_of x l g.vars 0 ≡ Some number
    pub named : HasClock number g.names

  abbrev pub Clocked : G → Site → Type 0
  Clocked g s = clock_way s.way ≡ true → Clock s.var s.list g

  record Grown (g g' : G) : Type 0 where
    pub vars : More g.vars g'.vars
    pub names : More g.names g'.names

  grown_none : (g g' : G) → g'.vars ≡ g.vars → g'.names ≡ g.names → Grown g g'
  grown_none g g' a b = record { vars = subst (More g.vars) (sym a) (more_none g.vars); names = subst (More g.names) (sym b) (more_none g.names) }

  grown_then : (g g' g'' : G) → Grown g g' → Grown g' g'' → Grown g g''
  grown_then g g' g'' a b = record { vars = more_then g.vars g'.vars g''.vars a.vars b.vars; names = more_then g.names g'.names g''.names a.names b.names }

  clocked_grown : (g g' : G) → Grown g g' → (s : Site) → Clocked g s → Clocked g' s
  clocked_grown g g' m s c e =
      let h = c e in
      record {
        number = h.number;
        is = subst (λ z. F.place_of s.var s.list z 0 ≡ Some h.number) (sym m.vars.is) (place_kept s.var s.list g.vars m.vars.list 0 h.number h.is);
        named = subst (λ z. list_any (is_clock_of h.number) z ≡ true) (sym m.names.is) (any_on (is_clock_of h.number) g.names m.names.list h.named);
      }

  -- what holds after each step
  pub record Good (f : C) (g : G) : Type 0 where
    pub next : f.next ≡ first + length g.names
    pub clocks : Each (Clocked g) f.sites
    pub exprs : Each (λ (x : Whole Note). Arms (F.arms x.place)) g.exprs
    pub sites : Each (SiteScoped schemes d) g.sites
    pub names : Names g.names

  record At (w : Where) (v : around_of.Where) : Type 0 where
    pub list : w.list ≡ F.arms (F.spot v)
    pub around : P.around w ≡ F.arms v.place
    pub inside : Arms (F.arms v.place)
    pub inner : Arms v.inner

  in_reset_same : (r : ℕ) (p : F.Place) → F.arms p ≡ F.arms (p ++ frame.Reset r ∷ [])
  in_reset_same r p = sym (arms_on p (frame.Reset r ∷ []) ∙ end_nil (F.arms p))

  reset_spot : (r : ℕ) (p : F.Place) (o : Option F.Place) → F.arms (unwrap_or o p) ≡ F.arms (unwrap_or o (p ++ frame.Reset r ∷ []))
  reset_spot r p (Some q) = refl
  reset_spot r p None = in_reset_same r p

  at_reset : (r : ℕ) (w : Where) (v : around_of.Where) → At w v → At w (F.in_reset r v)
  at_reset r w v a = record { list = a.list ∙ reset_spot r v.place v.block; around = a.around ∙ in_reset_same r v.place; inside = subst Arms (in_reset_same r v.place) a.inside; inner = a.inner }

  more_arms : (m j : ℕ) (p : F.Place) → Block m → Arms (F.arms p) → Arms (F.arms (p ++ frame.Arm m j ∷ []))
  more_arms m j p k a = subst Arms (sym (arms_on p (frame.Arm m j ∷ []))) (each_both (λ (x : F.InnerArm). Block x.0) (F.arms p) ((m, j) ∷ []) a (k, tt))

  at_do : (m j : ℕ) (w : Where) (v : around_of.Where) → Block m → At w v → At (P.in_do m j w) (F.in_do m j v)
  at_do m j w v k a = record {
    list = a.list;
    around = sym (append_assoc w.list w.inner ((m, j) ∷ [])) ∙ ap (λ z. z ++ (m, j) ∷ []) a.around ∙ sym (arms_on v.place (frame.Arm m j ∷ []));
    inside = more_arms m j v.place k a.inside;
    inner = each_both (λ (x : F.InnerArm). Block x.0) v.inner ((m, j) ∷ []) a.inner (k, tt);
  }

  at_let : (m j : ℕ) (w : Where) (v : around_of.Where) → Block m → At w v → At (P.in_let m j w) (F.in_let m j v)
  at_let m j w v k a =
      let here' : P.around w ++ (m, j) ∷ [] ≡ F.arms (v.place ++ frame.Arm m j ∷ []) = ap (λ z. z ++ (m, j) ∷ []) a.around ∙ sym (arms_on v.place (frame.Arm m j ∷ [])) in
      record { list = here'; around = end_nil (P.around w ++ (m, j) ∷ []) ∙ here'; inside = more_arms m j v.place k a.inside; inner = tt }

  -- one thing more

  good_read : (e : Expr Note) (s : Stand) (w : Where) (v : around_of.Where) (f : C) (g : G) → At w v → Good f g → Good (P.read Note (reads e s (P.around w)) f) (F.reading Note e v.place g)
  good_read e s w v f g a h = record {
    next = h.next;
    clocks = each_weaker (Clocked g) (Clocked (F.reading Note e v.place g)) f.sites (λ x c. clocked_grown g (F.reading Note e v.place g) (grown_none g (F.reading Note e v.place g) refl refl) x c) h.clocks;
    exprs = each_both (λ (x : Whole Note). Arms (F.arms x.place)) g.exprs (record { expr = e; place = v.place } ∷ []) h.exprs (a.inside, tt);
    sites = h.sites;
    names = h.names;
  }

  kept_next : (xs : List ℕ) (how : Way) (w : Where) (f : C) → (P.bind_all Note how w xs f).next ≡ f.next
  kept_next [] how w f = refl
  kept_next (x ∷ xs) how w f = kept_next xs how w (P.bind Note how w x f)

  all_clocked : (g : G) (xs : List ℕ) (how : Way) (w : Where) (f : C) → clock_way how ≡ false → Each (Clocked g) f.sites → Each (Clocked g) (P.bind_all Note how w xs f).sites
  all_clocked g [] how w f n h = h
  all_clocked g (x ∷ xs) how w f n h = all_clocked g xs how w (P.bind Note how w x f) n (each_both (Clocked g) f.sites (P.site_at how w x ∷ []) h ((λ e. absurd (differ (clock_way how) n e)), tt))

  site_grown : (xs : List ℕ) (sig : Bool) (right : Right) (v : around_of.Where) (g : G) → Grown g (F.site_at Note xs sig right v g)
  site_grown xs sig right v g = record { vars = bind_all_more xs sig v (g.vars, []); names = more_none g.names }

  -- the names of an equation
  good_bind : (ys xs : List ℕ) (how : Way) (w : Where) (sig : Bool) (right : Right) (v : around_of.Where) (f : C) (g : G) → clock_way how ≡ false → At w v → Good f g → Good (P.bind_all Note how w ys f) (F.site_at Note xs sig right v g)
  good_bind ys xs how w sig right v f g n a h =
      let g' = F.site_at Note xs sig right v g in
      record {
        next = kept_next ys how w f ∙ h.next;
        clocks = all_clocked g' ys how w f n (each_weaker (Clocked g) (Clocked g') f.sites (clocked_grown g g' (site_grown xs sig right v g)) h.clocks);
        exprs = h.exprs;
        sites = each_both (SiteScoped schemes d) g.sites (record { vars = (F.bind_all xs sig v (g.vars, [])).1; right = right; place = v.place; inner = v.inner } ∷ []) h.sites ((a.inner, a.inside), tt);
        names = h.names;
      }

  good_tests : (xs : List ℕ) (w : Where) (f : C) (g : G) → Good f g → Good (P.read_tests Note xs w f) g
  good_tests [] w f g h = h
  good_tests (x ∷ xs) w f g h = good_tests xs w (P.read Note (tests x (P.around w)) f) g (record { next = h.next; clocks = h.clocks; exprs = h.exprs; sites = h.sites; names = h.names })

  -- what else is found does not matter
  good_same : (f f' : C) (g g' : G) → f'.next ≡ f.next → f'.sites ≡ f.sites → g'.vars ≡ g.vars → g'.names ≡ g.names → g'.exprs ≡ g.exprs → g'.sites ≡ g.sites → Good f g → Good f' g'
  good_same f f' g g' e1 e2 e3 e4 e5 e6 h = record {
    next = e1 ∙ h.next ∙ ap (λ z. first + length z) (sym e4);
    clocks = subst (Each (Clocked g')) (sym e2) (each_weaker (Clocked g) (Clocked g') f.sites (clocked_grown g g' (grown_none g g' e3 e4)) h.clocks);
    exprs = subst (Each (λ (x : Whole Note). Arms (F.arms x.place))) (sym e5) h.exprs;
    sites = subst (Each (SiteScoped schemes d)) (sym e6) h.sites;
    names = subst Names (sym e4) h.names;
  }

  -- one more name of a block
  good_name : (n : Named) (f f' : C) (g g' : G) → f'.next ≡ f.next + 1 → f'.sites ≡ f.sites → g'.names ≡ g.names ++ n ∷ [] → g'.vars ≡ g.vars → g'.exprs ≡ g.exprs → g'.sites ≡ g.sites → Names (n ∷ []) → Good f g → Good f' g'
  good_name n f f' g g' e1 e2 e3 e4 e5 e6 m h =
      let more : Grown g g' = record { vars = subst (More g.vars) (sym e4) (more_none g.vars); names = record { list = n ∷ []; is = e3 } } in
      record {
        next = e1 ∙ counted f.next first g.names n h.next ∙ ap (λ z. first + length z) (sym e3);
        clocks = subst (Each (Clocked g')) (sym e2) (each_weaker (Clocked g) (Clocked g') f.sites (clocked_grown g g' more) h.clocks);
        exprs = subst (Each (λ (x : Whole Note). Arms (F.arms x.place))) (sym e5) h.exprs;
        sites = subst (Each (SiteScoped schemes d)) (sym e6) h.sites;
        names = subst Names (sym e3) (names_on g.names (n ∷ []) h.names m);
      }

  -- what a part of a body does

  abbrev Does : C → C → G → G → Type 0 → Type 0
  Does f f' g g' Given = Grown g g' × (Given → Prefix g'.names → Good f g → Good f' g')

  abbrev R1 : P.Walk Note → F.Walk Note → Type 0
  R1 a b = (w : Where) (v : around_of.Where) (f : C) (g : G) → Does f (a w f) g (b v g) (At w v)

  abbrev R4 : P.InArm Note → F.InArm Note → Type 0
  R4 a b = (m j : ℕ) (w : Where) (v : around_of.Where) (f : C) (g : G) → Does f (a m j w f) g (b m j v g) (Block m × At w v)

  abbrev R2 : P.AnArm Note → F.AnArm Note → Type 0
  R2 a b = R4 a.walk b.walk

  abbrev R3 : P.AGuard Note → F.AGuard Note → Type 0
  R3 a b = R4 a.walk b.walk

  abbrev R5 : P.AState Note → F.AState Note → Type 0
  R5 a b = (m j : ℕ) (w : Where) (v : around_of.Where) (f : C) (g : G) → Does f (a.walk m j w f) g (b.walk m j v g) (Block m × Block (m + 1) × At w v)

  abbrev R6 : P.ATest Note → F.ATest Note → Type 0
  R6 a b = R4 a.walk b.walk

  abbrev T1 : Type 0
  T1 = (a : P.Walk Note) × (b : F.Walk Note) × R1 a b

  abbrev T2 : Type 0
  T2 = (a : P.AnArm Note) × (b : F.AnArm Note) × R2 a b

  abbrev T3 : Type 0
  T3 = (a : P.AGuard Note) × (b : F.AGuard Note) × R3 a b

  abbrev T4 : Type 0
  T4 = (a : P.InArm Note) × (b : F.InArm Note) × R4 a b

  abbrev T5 : Type 0
  T5 = (a : P.AState Note) × (b : F.AState Note) × R5 a b

  abbrev T6 : Type 0
  T6 = (a : P.ATest Note) × (b : F.ATest Note) × R6 a b

  -- one part after the other
  then_ : (f f' f'' : C) (g g' g'' : G) (X Y Z : Type 0) → (Z → X) → (Z → Y) → Does f f' g g' X → Does f' f'' g' g'' Y → Does f f'' g g'' Z
  then_ f f' f'' g g' g'' X Y Z x y a b = (
    grown_then g g' g'' a.0 b.0,
    (λ z p h. b.1 (y z) p (a.1 (x z) (prefix_back g'.names g''.names b.0.names p) h)),
  )

  nothing_done : (f : C) (g : G) (X : Type 0) → Does f f g g X
  nothing_done f g X = (grown_none g g refl refl, (λ x p h. h))

  all_done : (qs : List T1) (w : Where) (v : around_of.Where) (f : C) (g : G) → Does f (P.walk_all Note (map {A = T1} {B = P.Walk Note} (λ p. p.0) qs) w f) g (F.walk_all Note (map {A = T1} {B = F.Walk Note} (λ p. p.1) qs) v g) (At w v)
  all_done [] w v f g = nothing_done f g (At w v)
  all_done (q ∷ qs) w v f g = then_ f (q.0 w f) _ g (q.1 v g) _ (At w v) (At w v) (At w v) (λ a. a) (λ a. a) (q.2 w v f g) (all_done qs w v (q.0 w f) (q.1 v g))

  arms_done : (all : List T2) (m j : ℕ) (w : Where) (v : around_of.Where) (f : C) (g : G)
      → Does f (P.arms_from Note m j (P.arm_walks Note (map {A = T2} {B = P.AnArm Note} (λ p. p.0) all)) w f) g (F.arms_from Note m j (F.arm_walks Note (map {A = T2} {B = F.AnArm Note} (λ p. p.1) all)) v g) (Block m × At w v)
  arms_done [] m j w v f g = nothing_done f g (Block m × At w v)
  arms_done (q ∷ all) m j w v f g =
      then_ f (q.0.walk m j w f) _ g (q.1.walk m j v g) _ (Block m × At w v) (Block m × At w v) (Block m × At w v) (λ a. a) (λ a. a) (q.2 m j w v f g) (arms_done all m (suc j) w v (q.0.walk m j w f) (q.1.walk m j v g))

  states_done : (all : List T5) (m j : ℕ) (w : Where) (v : around_of.Where) (f : C) (g : G)
      → Does f (P.arms_from Note m j (P.state_walks Note (map {A = T5} {B = P.AState Note} (λ p. p.0) all)) w f) g (F.arms_from Note m j (F.state_walks Note (map {A = T5} {B = F.AState Note} (λ p. p.1) all)) v g) (Block m × Block (m + 1) × At w v)
  states_done [] m j w v f g = nothing_done f g (Block m × Block (m + 1) × At w v)
  states_done (q ∷ all) m j w v f g =
      then_ f (q.0.walk m j w f) _ g (q.1.walk m j v g) _ (Block m × Block (m + 1) × At w v) (Block m × Block (m + 1) × At w v) (Block m × Block (m + 1) × At w v) (λ a. a) (λ a. a)
      (q.2 m j w v f g) (states_done all m (suc j) w v (q.0.walk m j w f) (q.1.walk m j v g))

  guards_done : (all : List T3) (m j : ℕ) (w : Where) (v : around_of.Where) (f : C) (g : G)
      → Does f (P.walk_guards Note (map {A = T3} {B = P.AGuard Note} (λ p. p.0) all) m j w f) g (F.walk_guards Note (map {A = T3} {B = F.AGuard Note} (λ p. p.1) all) m j v g) (Block m × At w v)
  guards_done [] m j w v f g = nothing_done f g (Block m × At w v)
  guards_done (q ∷ all) m j w v f g =
      then_ f (q.0.walk m j w f) _ g (q.1.walk m j v g) _ (Block m × At w v) (Block m × At w v) (Block m × At w v) (λ a. a) (λ a. a) (q.2 m j w v f g) (guards_done all m j w v (q.0.walk m j w f) (q.1.walk m j v g))

  other_done : (o : Option T4) (m i j : ℕ) (w : Where) (v : around_of.Where) (f : C) (g : G) → i ≡ j
      → Does f (P.other_arm Note m i (option_map {T = T4} {U = P.InArm Note} (λ p. p.0) o) w f) g (F.arms_from Note m j (F.option_list (option_map {T = T4} {U = F.InArm Note} (λ p. p.1) o)) v g) (Block m × At w v)
  other_done None m i j w v f g e = nothing_done f g (Block m × At w v)
  other_done (Some h) m i j w v f g e = subst (λ n. Does f (h.0 m n w f) g (h.1 m j v g) (Block m × At w v)) (sym e) (h.2 m j w v f g)

  tests_done : (all : List T6) (o : Option T4) (m j i : ℕ) (w : Where) (v : around_of.Where) (f : C) (g : G) → i ≡ j + length (map {A = T6} {B = P.ATest Note} (λ p. p.0) all)
      → Does f (P.other_arm Note m i (option_map {T = T4} {U = P.InArm Note} (λ p. p.0) o) w (P.arms_from Note m j (P.test_walks Note (map {A = T6} {B = P.ATest Note} (λ p. p.0) all)) w f)) g
      (F.arms_from Note m j (F.test_walks Note (map {A = T6} {B = F.ATest Note} (λ p. p.1) all) ++ F.option_list (option_map {T = T4} {U = F.InArm Note} (λ p. p.1) o)) v g) (Block m × At w v)
  tests_done [] o m j i w v f g e = other_done o m i j w v f g (omega (arith, e))
  tests_done (q ∷ all) o m j i w v f g e =
      then_ f (q.0.walk m j w f) _ g (q.1.walk m j v g) _ (Block m × At w v) (Block m × At w v) (Block m × At w v) (λ a. a) (λ a. a) (q.2 m j w v f g)
      (tests_done all o m (suc j) i w v (q.0.walk m j w f) (q.1.walk m j v g) (omega (arith, e)))

  -- what a block does, with its number as scope counts it
  numbered : (f' : ℕ → C) (f : C) (g g' : G) (X : Type 0) → Grown g g' → (X → Prefix g'.names → Good f g → Good (f' (first + length g.names)) g') → Does f (f' f.next) g g' X
  numbered f' f g g' X m h = (m, (λ x p a. subst (λ n. Good (f' n) g') (sym a.next) (h x p a)))

  -- the steps

  abbrev s1 : Equation-F Note (P.Walk Note) (P.AnArm Note) (P.AGuard Note) (P.InArm Note) (P.AState Note) (P.ATest Note) → P.Walk Note
  s1 = P.equation_step Note

  abbrev t1 : Equation-F Note (F.Walk Note) (F.AnArm Note) (F.AGuard Note) (F.InArm Note) (F.AState Note) (F.ATest Note) → F.Walk Note
  t1 = F.equation_step Note first cases signal

  abbrev s2 : Arm-F Note (P.Walk Note) (P.AnArm Note) (P.AGuard Note) (P.InArm Note) (P.AState Note) (P.ATest Note) → P.AnArm Note
  s2 = P.arm_step Note

  abbrev t2 : Arm-F Note (F.Walk Note) (F.AnArm Note) (F.AGuard Note) (F.InArm Note) (F.AState Note) (F.ATest Note) → F.AnArm Note
  t2 = F.arm_step Note first cases signal

  abbrev s3 : Guard-F Note (P.Walk Note) (P.AnArm Note) (P.AGuard Note) (P.InArm Note) (P.AState Note) (P.ATest Note) → P.AGuard Note
  s3 = P.guard_step Note

  abbrev t3 : Guard-F Note (F.Walk Note) (F.AnArm Note) (F.AGuard Note) (F.InArm Note) (F.AState Note) (F.ATest Note) → F.AGuard Note
  t3 = F.guard_step Note first cases signal

  abbrev s4 : Handler-F Note (P.Walk Note) (P.AnArm Note) (P.AGuard Note) (P.InArm Note) (P.AState Note) (P.ATest Note) → P.InArm Note
  s4 = P.handler_step Note

  abbrev t4 : Handler-F Note (F.Walk Note) (F.AnArm Note) (F.AGuard Note) (F.InArm Note) (F.AState Note) (F.ATest Note) → F.InArm Note
  t4 = F.handler_step Note first cases signal

  abbrev s5 : State-F Note (P.Walk Note) (P.AnArm Note) (P.AGuard Note) (P.InArm Note) (P.AState Note) (P.ATest Note) → P.AState Note
  s5 = P.state_step Note

  abbrev t5 : State-F Note (F.Walk Note) (F.AnArm Note) (F.AGuard Note) (F.InArm Note) (F.AState Note) (F.ATest Note) → F.AState Note
  t5 = F.state_step Note first cases signal

  abbrev s6 : Test-F Note (P.Walk Note) (P.AnArm Note) (P.AGuard Note) (P.InArm Note) (P.AState Note) (P.ATest Note) → P.ATest Note
  s6 = P.test_step Note

  abbrev t6 : Test-F Note (F.Walk Note) (F.AnArm Note) (F.AGuard Note) (F.InArm Note) (F.AState Note) (F.ATest Note) → F.ATest Note
  t6 = F.test_step Note first cases signal

  -- `clock x = e`
  clock_read : (x : ℕ) (e : Expr Note) (w : Where) (v : around_of.Where) (f : C) (g : G) → At w v → Good f g
      → Good (P.bind Note way.Clock w x (P.read Note (reads e stream (P.around w)) (P.count_name Note f))) (F.clock_at Note x v (F.whole_at Note x false e v g))
  clock_read x e w v f g a h =
      let g1 : G = F.reading Note e v.place g in
      let g2 : G = F.whole_at Note x false e v g in
      let g3 : G = F.clock_at Note x v g2 in
      let l = F.arms (F.spot v) in
      let k = unwrap_or (F.place_of x l g2.vars 0) 0 in
      let r = good_read e stream w v f g a h in
      let there = there_bound x false v (g1.vars, []) (F.place_of x l g1.vars 0) refl in
      let num : k ≡ there.place = ap (λ o. unwrap_or o 0) there.is in
      let m : Grown g1 g3 = record { vars = bind_all_more (x ∷ []) false v (g1.vars, []); names = more_one g1.names (named.Clock k) } in
      let mine : Clock x w.list g3 = record {
        number = there.place;
        is = ap (λ z. F.place_of x z g2.vars 0) a.list ∙ there.is;
        named = any_end (is_clock_of there.place) g1.names (named.Clock k) [] (ap (λ z. there.place == z) num ∙ same_number there.place);
      } in
      record {
        next = counted f.next first g.names (named.Clock k) h.next;
        clocks = each_both (Clocked g3) f.sites (P.site_at way.Clock w x ∷ []) (each_weaker (Clocked g1) (Clocked g3) f.sites (clocked_grown g1 g3 m) r.clocks) ((λ e. mine), tt);
        exprs = r.exprs;
        sites = each_both (SiteScoped schemes d) g1.sites (record { vars = (F.bind_all (x ∷ []) false v (g1.vars, [])).1; right = rhs.Whole (F.next_expr Note g); place = v.place; inner = v.inner } ∷ []) r.sites ((a.inner, a.inside), tt);
        names = names_on g1.names (named.Clock k ∷ []) r.names tt;
      }

  present_done : (all : List T6) (o : Option T4) (w : Where) (v : around_of.Where) (f : C) (g : G)
      → Does f (P.other_arm Note f.next (length (map {A = T6} {B = P.ATest Note} (λ p. p.0) all)) (option_map {T = T4} {U = P.InArm Note} (λ p. p.0) o) w
      (P.arms_from Note f.next 0 (P.test_walks Note (map {A = T6} {B = P.ATest Note} (λ p. p.0) all)) w (P.count_name Note (P.read_tests Note (P.test_signals Note (map {A = T6} {B = P.ATest Note} (λ p. p.0) all)) w f))))
      g (F.arms_from Note (first + length g.names) 0 (F.test_walks Note (map {A = T6} {B = F.ATest Note} (λ p. p.1) all) ++ F.option_list (option_map {T = T4} {U = F.InArm Note} (λ p. p.1) o)) v
      (F.open_present Note (F.test_signals Note (map {A = T6} {B = F.ATest Note} (λ p. p.1) all)) v g)) (At w v)
  present_done all o w v f g =
      let xs : List ℕ = P.test_signals Note (map {A = T6} {B = P.ATest Note} (λ p. p.0) all) in
      let ys : List ℕ = F.test_signals Note (map {A = T6} {B = F.ATest Note} (λ p. p.1) all) in
      let f1 : C = P.count_name Note (P.read_tests Note xs w f) in
      let g1 : G = F.open_present Note ys v g in
      let m : ℕ = first + length g.names in
      let n : ℕ = length (map {A = T6} {B = P.ATest Note} (λ p. p.0) all) in
      let t = tests_done all o m 0 n w v f1 g1 (let e : n ≡ 0 + n = omega arith in e) in
      let g2 : G = F.arms_from Note m 0 (F.test_walks Note (map {A = T6} {B = F.ATest Note} (λ p. p.1) all) ++ F.option_list (option_map {T = T4} {U = F.InArm Note} (λ p. p.1) o)) v g1 in
      let opening : Grown g g1 = record { vars = more_none g.vars; names = more_one g.names (named.Present ys v.place) } in
      numbered (λ k. P.other_arm Note k n (option_map {T = T4} {U = P.InArm Note} (λ p. p.0) o) w (P.arms_from Note k 0 (P.test_walks Note (map {A = T6} {B = P.ATest Note} (λ p. p.0) all)) w f1)) f g g2 (At w v) (grown_then g g1 g2 opening t.0)
      (λ a p h. t.1 (new_block g.names (named.Present ys v.place) refl (prefix_back g1.names g2.names t.0.names p), a) p
      (good_name (named.Present ys v.place) (P.read_tests Note xs w f) f1 g g1 refl refl refl refl refl refl (a.inside, tt) (good_tests xs w f g h)))

  -- an automaton, whose names are put in place at its end
  closed : (k : ℕ) (strong weak : F.Guards Note) (p : F.Place) (g g' : G) (more : List Named) → k ≡ length g.names → g'.names ≡ (g.names ++ named.Active [] p ∷ []) ++ (named.Tested [] p ∷ more)
      → (F.close_modes Note k strong weak p g').names ≡ g.names ++ named.Active strong p ∷ named.Tested weak p ∷ more
  closed k strong weak p g g' more e is =
      let a = named.Active [] p in
      let b = named.Tested [] p in
      (λ i. slice_set (slice_set (is i) (e i) (named.Active strong p)) (e i + 1) (named.Tested weak p))
      ∙ ap (λ z. slice_set (slice_set z (length g.names) (named.Active strong p)) (length g.names + 1) (named.Tested weak p)) (append_assoc g.names (a ∷ []) (b ∷ more))
      ∙ ap (λ z. slice_set z (length g.names + 1) (named.Tested weak p)) (set_at g.names a (named.Active strong p) (b ∷ more))
      ∙ set_next g.names (named.Active strong p) b (named.Tested weak p) more

  same_clocks : (k : ℕ) (xs more : List Named) (s t s' t' : F.Guards Note) (p : F.Place) → list_any (is_clock_of k) (xs ++ named.Active s p ∷ named.Tested t p ∷ more) ≡ list_any (is_clock_of k) (xs ++ named.Active s' p ∷ named.Tested t' p ∷ more)
  same_clocks k [] more s t s' t' p = refl
  same_clocks k (x ∷ xs) more s t s' t' p = ap (λ z. is_clock_of k x || z) (same_clocks k xs more s t s' t' p)

  same_kinds : (xs more : List Named) (s t s' t' : F.Guards Note) (p : F.Place) → map opens (xs ++ named.Active s p ∷ named.Tested t p ∷ more) ≡ map opens (xs ++ named.Active s' p ∷ named.Tested t' p ∷ more)
  same_kinds [] more s t s' t' p = refl
  same_kinds (x ∷ xs) more s t s' t' p = ap (λ z. opens x ∷ z) (same_kinds xs more s t s' t' p)

  same_length : (xs more : List Named) (s t s' t' : F.Guards Note) (p : F.Place) → length (xs ++ named.Active s p ∷ named.Tested t p ∷ more) ≡ length (xs ++ named.Active s' p ∷ named.Tested t' p ∷ more)
  same_length [] more s t s' t' p = refl
  same_length (x ∷ xs) more s t s' t' p = ap suc (same_length xs more s t s' t' p)

  automaton_done : (all : List T5) (w : Where) (v : around_of.Where) (f : C) (g : G)
      → Does f (s1 (Equation-F.Automaton (map {A = T5} {B = P.AState Note} (λ p. p.0) all)) w f) g (t1 (Equation-F.Automaton (map {A = T5} {B = F.AState Note} (λ p. p.1) all)) v g) (At w v)
  automaton_done all w v f g =
      let p : F.Place = v.place in
      let m : ℕ = first + length g.names in
      let us : List (F.AState Note) = map {A = T5} {B = F.AState Note} (λ p. p.1) all in
      let f1 : C = P.open_automaton Note (P.state_titles Note (map {A = T5} {B = P.AState Note} (λ p. p.0) all)) (P.state_targets Note (map {A = T5} {B = P.AState Note} (λ p. p.0) all)) f in
      let g0 : G = F.naming Note (named.Active [] p) g in
      let g1 : G = F.open_modes Note p g in
      let t = states_done all m 0 w v f1 g1 in
      let g2 : G = F.arms_from Note m 0 (F.state_walks Note us) v g1 in
      let strong = F.strongs_from Note m 0 us v g1 in
      let weak = F.weaks_from Note m 0 us v g1 in
      let g3 : G = F.close_modes Note (length g.names) strong weak p g2 in
      let more : List Named = t.0.names.list in
      let is2 : g2.names ≡ (g.names ++ named.Active [] p ∷ []) ++ (named.Tested [] p ∷ more) = t.0.names.is ∙ append_assoc (g.names ++ named.Active [] p ∷ []) (named.Tested [] p ∷ []) more in
      let is2' : g2.names ≡ g.names ++ named.Active [] p ∷ named.Tested [] p ∷ more = is2 ∙ append_assoc g.names (named.Active [] p ∷ []) (named.Tested [] p ∷ more) in
      let is3 : g3.names ≡ g.names ++ named.Active strong p ∷ named.Tested weak p ∷ more = closed (length g.names) strong weak p g g2 more refl is2 in
      numbered (λ k. P.arms_from Note k 0 (P.state_walks Note (map {A = T5} {B = P.AState Note} (λ p. p.0) all)) w f1) f g g3 (At w v)
      (record { vars = t.0.vars; names = record { list = named.Active strong p ∷ named.Tested weak p ∷ more; is = is3 } })
      (λ a pre h.
      let pre2 : Prefix g2.names = (pre.0, pre.1 ∙ ap (λ z. map opens z ++ pre.0) is3 ∙ ap (λ z. z ++ pre.0) (same_kinds g.names more strong weak [] [] p) ∙ ap (λ z. map opens z ++ pre.0) (sym is2')) in
      let pre1 : Prefix g1.names = prefix_back g1.names g2.names t.0.names pre2 in
      let b1 : Block m = new_block g.names (named.Active [] p) refl (prefix_back g0.names g1.names (more_one g0.names (named.Tested [] p)) pre1) in
      let long : first + length g0.names ≡ m + 1 = (let l = length_end g.names (named.Active [] p) in omega (arith, l)) in
      let b2 : Block (m + 1) = subst Block long (new_block g0.names (named.Tested [] p) refl pre1) in
      let up : Grown g g1 = record { vars = more_none g.vars; names = record { list = named.Active [] p ∷ named.Tested [] p ∷ []; is = append_assoc g.names (named.Active [] p ∷ []) (named.Tested [] p ∷ []) } } in
      let h1 : Good f1 g1 = record {
        next = two_counted f.next first g.names (named.Active [] p) (named.Tested [] p) h.next;
        clocks = each_weaker (Clocked g) (Clocked g1) f.sites (clocked_grown g g1 up) h.clocks;
        exprs = h.exprs;
        sites = h.sites;
        names = subst Names (sym (append_assoc g.names (named.Active [] p ∷ []) (named.Tested [] p ∷ []))) (names_on g.names (named.Active [] p ∷ named.Tested [] p ∷ []) h.names tt);
      } in
      let h2 = t.1 (b1, b2, a) pre2 h1 in
      let inside : Names more = names_after g.names (named.Active [] p ∷ named.Tested [] p ∷ more) h.names (subst Names is2' h2.names) in
      record {
        next = h2.next ∙ ap (λ z. first + length z) is2' ∙ ap (λ z. first + z) (same_length g.names more [] [] strong weak p) ∙ ap (λ z. first + length z) (sym is3);
        clocks = each_weaker (Clocked g2) (Clocked g3) _ (λ s c e. let q = c e in record {
          number = q.number;
          is = q.is;
          named = ap (list_any (is_clock_of q.number)) is3 ∙ same_clocks q.number g.names more strong weak [] [] p ∙ ap (list_any (is_clock_of q.number)) (sym is2') ∙ q.named;
        }) h2.clocks;
        exprs = h2.exprs;
        sites = h2.sites;
        names = subst Names (sym is3) (names_on g.names (named.Active strong p ∷ named.Tested weak p ∷ more) h.names inside);
      })

  step1 : (y : Equation-F Note T1 T2 T3 T4 T5 T6) → R1 (s1 (lefts_Equation s1 s2 s3 s4 s5 s6 t1 t2 t3 t4 t5 t6 R1 R2 R3 R4 R5 R6 y)) (t1 (rights_Equation s1 s2 s3 s4 s5 s6 t1 t2 t3 t4 t5 t6 R1 R2 R3 R4 R5 R6 y))
  step1 (Equation-F.Plain p e) w v f g =
      let s = P.stand_of (P.is_name p) in (
        record { vars = bind_all_more (FP.names_of p) (signal e) v (g.vars, []); names = more_none g.names },
        (λ a q h. good_bind (P.names_of p) (FP.names_of p) (P.way_of (P.is_name p) e) w (signal e) (rhs.Part p (F.next_expr Note g)) v (P.read Note (reads e s (P.around w)) f) (F.reading Note e v.place g) (plain_way (P.is_name p) e) a (good_read e s w v f g a h)),
      )
  step1 (Equation-F.Clock x e) w v f g =
      let g2 : G = F.whole_at Note x.0 false e v g in (
        record { vars = bind_all_more (x.0 ∷ []) false v (g.vars, []); names = more_one g.names (named.Clock (unwrap_or (F.place_of x.0 (F.arms (F.spot v)) g2.vars 0) 0)) },
        (λ a q h. clock_read x.0 e w v f g a h),
      )
  step1 (Equation-F.Initial x e) w v f g = (grown_none g (F.start_at Note x.0 e v g) refl refl, (λ a q h. let f0 : C = P.read Note (reads e stream (P.around w)) f in good_same f0 (P.start Note x.0 w f0) (F.reading Note e v.place g) (F.start_at Note x.0 e v g) refl refl refl refl refl refl (good_read e stream w v f g a h)))
  step1 (Equation-F.Emit x e) w v f g = (
    record { vars = bind_all_more (x.0 ∷ []) true v (g.vars, []); names = more_none g.names },
    (λ a q h. good_bind (x.0 ∷ []) (x.0 ∷ []) way.Emitted w true (rhs.Whole (F.next_expr Note g)) v (P.read Note (reads e stream (P.around w)) f) (F.reading Note e v.place g) refl a (good_read e stream w v f g a h)),
  )
  step1 (Equation-F.Reset qs e) w v f g =
      let f1 : C = P.read Note (reads e stream (P.around w)) f in
      let g1 : G = F.open_reset Note e v g in
      let t = all_done qs w (F.in_reset (length g.resets) v) f1 g1 in (
        grown_then g g1 _ (grown_none g g1 refl refl) t.0,
        (λ a p h. t.1 (at_reset (length g.resets) w v a) p (good_same f1 f1 (F.reading Note e v.place g) g1 refl refl refl refl refl refl (good_read e stream w v f g a h))),
      )
  step1 (Equation-F.Match e all) w v f g =
      let cs : List (Option ℕ) = P.arm_cases Note (map {A = T2} {B = P.AnArm Note} (λ p. p.0) all) in
      let ds : List (Option ℕ) = F.arm_cases Note (map {A = T2} {B = F.AnArm Note} (λ p. p.1) all) in
      let f0 : C = P.read Note (reads e stream (P.around w)) f in
      let f1 : C = P.open_match Note cs f0 in
      let g0 : G = F.reading Note e v.place g in
      let g1 : G = F.open_match Note e ds v g in
      let m : ℕ = first + length g.names in
      let n : Named = named.Match (F.next_expr Note g) ds v.place in
      let t = arms_done all m 0 w v f1 g1 in
      let g2 : G = F.arms_from Note m 0 (F.arm_walks Note (map {A = T2} {B = F.AnArm Note} (λ p. p.1) all)) v g1 in
      numbered (λ k. P.arms_from Note k 0 (P.arm_walks Note (map {A = T2} {B = P.AnArm Note} (λ p. p.0) all)) w f1) f g g2 (At w v) (grown_then g g1 g2 (record { vars = more_none g.vars; names = more_one g.names n }) t.0)
      (λ a p h. t.1 (new_block g.names n refl (prefix_back g1.names g2.names t.0.names p), a) p (good_name n f0 f1 g0 g1 refl refl refl refl refl refl tt (good_read e stream w v f g a h)))
  step1 (Equation-F.Present all None) w v f g = present_done all None w v f g
  step1 (Equation-F.Present all (Some h)) w v f g = present_done all (Some h) w v f g
  step1 (Equation-F.Automaton all) w v f g = automaton_done all w v f g

  step2 : (y : Arm-F Note T1 T2 T3 T4 T5 T6) → R2 (s2 (lefts_Arm s1 s2 s3 s4 s5 s6 t1 t2 t3 t4 t5 t6 R1 R2 R3 R4 R5 R6 y)) (t2 (rights_Arm s1 s2 s3 s4 s5 s6 t1 t2 t3 t4 t5 t6 R1 R2 R3 R4 R5 R6 y))
  step2 y m j w v f g = y.handler.2 m j w v f g

  step3 : (y : Guard-F Note T1 T2 T3 T4 T5 T6) → R3 (s3 (lefts_Guard s1 s2 s3 s4 s5 s6 t1 t2 t3 t4 t5 t6 R1 R2 R3 R4 R5 R6 y)) (t3 (rights_Guard s1 s2 s3 s4 s5 s6 t1 t2 t3 t4 t5 t6 R1 R2 R3 R4 R5 R6 y))
  step3 y m j w v f g =
      let w' = P.in_let m j w in
      let v' = F.in_let m j v in
      let f1 : C = P.walk_all Note (map {A = T1} {B = P.Walk Note} (λ p. p.0) y.eqs) w' f in
      let g1 : G = F.walk_all Note (map {A = T1} {B = F.Walk Note} (λ p. p.1) y.eqs) v' g in
      let t = all_done y.eqs w' v' f g in (
        grown_then g g1 (F.reading Note y.cond v'.place g1) t.0 (grown_none g1 (F.reading Note y.cond v'.place g1) refl refl),
        (λ x p h. let a = at_let m j w v x.0 x.1 in good_read y.cond stream w' v' f1 g1 a (t.1 a p h)),
      )

  step4 : (y : Handler-F Note T1 T2 T3 T4 T5 T6) → R4 (s4 (lefts_Handler s1 s2 s3 s4 s5 s6 t1 t2 t3 t4 t5 t6 R1 R2 R3 R4 R5 R6 y)) (t4 (rights_Handler s1 s2 s3 s4 s5 s6 t1 t2 t3 t4 t5 t6 R1 R2 R3 R4 R5 R6 y))
  step4 y m j w v f g =
      let f1 : C = P.walk_all Note (map {A = T1} {B = P.Walk Note} (λ p. p.0) y.locals) (P.in_let m j w) f in
      let g1 : G = F.walk_all Note (map {A = T1} {B = F.Walk Note} (λ p. p.1) y.locals) (F.in_let m j v) g in
      then_ f f1 _ g g1 _ (At (P.in_let m j w) (F.in_let m j v)) (At (P.in_do m j w) (F.in_do m j v)) (Block m × At w v) (λ x. at_let m j w v x.0 x.1) (λ x. at_do m j w v x.0 x.1)
      (all_done y.locals (P.in_let m j w) (F.in_let m j v) f g) (all_done y.eqs (P.in_do m j w) (F.in_do m j v) f1 g1)

  step5 : (y : State-F Note T1 T2 T3 T4 T5 T6) → R5 (s5 (lefts_State s1 s2 s3 s4 s5 s6 t1 t2 t3 t4 t5 t6 R1 R2 R3 R4 R5 R6 y)) (t5 (rights_State s1 s2 s3 s4 s5 s6 t1 t2 t3 t4 t5 t6 R1 R2 R3 R4 R5 R6 y))
  step5 y m j w v f g =
      let f1 : C = y.handler.0 m j w f in
      let g1 : G = y.handler.1 m j v g in
      let f2 : C = P.walk_guards Note (map {A = T3} {B = P.AGuard Note} (λ p. p.0) y.strong) (m + 1) j w f1 in
      let g2 : G = F.walk_guards Note (map {A = T3} {B = F.AGuard Note} (λ p. p.1) y.strong) (m + 1) j v g1 in
      let Given : Type 0 = Block m × Block (m + 1) × At w v in
      then_ f f1 _ g g1 _ (Block m × At w v) Given Given (λ x. (x.0, x.2)) (λ x. x) (y.handler.2 m j w v f g)
      (then_ f1 f2 _ g1 g2 _ (Block (m + 1) × At w v) (Block m × At w v) Given (λ x. (x.1, x.2)) (λ x. (x.0, x.2)) (guards_done y.strong (m + 1) j w v f1 g1) (guards_done y.weak m j w v f2 g2))

  tested_done : (o : Option Pat) (x : ℕ) (w : Where) (v : around_of.Where) (f : C) (g : G) → Does f (P.bind_pattern Note o w f) g (F.bind_pattern Note x o v g) (At w v)
  tested_done None x w v f g = nothing_done f g (At w v)
  tested_done (Some p) x w v f g = (site_grown (FP.names_of p) false (rhs.Pattern x p) v g, (λ a q h. good_bind (P.names_of p) (FP.names_of p) way.Tested w false (rhs.Pattern x p) v f g refl a h))

  step6 : (y : Test-F Note T1 T2 T3 T4 T5 T6) → R6 (s6 (lefts_Test s1 s2 s3 s4 s5 s6 t1 t2 t3 t4 t5 t6 R1 R2 R3 R4 R5 R6 y)) (t6 (rights_Test s1 s2 s3 s4 s5 s6 t1 t2 t3 t4 t5 t6 R1 R2 R3 R4 R5 R6 y))
  step6 y m j w v f g =
      let f1 : C = P.bind_pattern Note y.pat (P.in_let m j w) f in
      let g1 : G = F.bind_pattern Note y.signal.0 y.pat (F.in_let m j v) g in
      then_ f f1 _ g g1 _ (At (P.in_let m j w) (F.in_let m j v)) (Block m × At w v) (Block m × At w v) (λ x. at_let m j w v x.0 x.1) (λ x. x) (tested_done y.pat y.signal.0 (P.in_let m j w) (F.in_let m j v) f g) (y.handler.2 m j w v f1 g1)

  equation_done : (q : Equation Note) → R1 (P.walk_of Note q) (F.walk_of Note first cases signal q)
  equation_done = related_equations s1 s2 s3 s4 s5 s6 t1 t2 t3 t4 t5 t6 R1 R2 R3 R4 R5 R6 step1 step2 step3 step4 step5 step6

  eqs_done : (qs : List (Equation Note)) (w : Where) (v : around_of.Where) (f : C) (g : G) → Does f (P.walk_all Note (map (P.walk_of Note) qs) w f) g (F.walk_all Note (map (F.walk_of Note first cases signal) qs) v g) (At w v)
  eqs_done [] w v f g = nothing_done f g (At w v)
  eqs_done (q ∷ qs) w v f g = then_ f (P.walk_of Note q w f) _ g (F.walk_of Note first cases signal q v g) _ (At w v) (At w v) (At w v) (λ a. a) (λ a. a) (equation_done q w v f g) (eqs_done qs w v (P.walk_of Note q w f) (F.walk_of Note first cases signal q v g))

  -- a whole body
  pub body_good : (b : BodyOf Note) → d.names ≡ (F.find Note first cases signal b).names → Good (P.contents_of Note first b) (F.find Note first cases signal b)
  body_good b e =
      let f1 : C = P.walk_all Note (map (P.walk_of Note) b.eqs) P.at_top (P.nothing_yet Note first) in
      let g1 : G = F.walk_body Note first cases signal b.eqs F.at_top (F.nothing Note) in
      let a : At P.at_top F.at_top = record { list = refl; around = refl; inside = tt; inner = tt } in
      let h : Good (P.nothing_yet Note first) (F.nothing Note) = record { next = omega arith; clocks = tt; exprs = tt; sites = tt; names = tt } in
      good_read b.result whole P.at_top F.at_top f1 g1 a
      ((eqs_done b.eqs P.at_top F.at_top (P.nothing_yet Note first) (F.nothing Note)).1 a ([], ap (map opens) e ∙ sym (end_nil (map opens g1.names))) h)
