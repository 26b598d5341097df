-- Where the pairs of a definition are equal, so are those of the shrunk definition.
use Rattle.std.specs.Prelude.{◌≡◌, ℕ, zero, suc, ◌-◌, ◌+◌, ◌≤◌, ◌<◌, ◌==◌, ◌&&◌, ◌||◌, Bool, true, false, not, List, [], ◌∷◌, ◌++◌, map, length, drop, Option, Some, None, option_map, unwrap_or, if◌then◌else◌, nat_lt, refl}
use Rattle.std.proofs.Common.{ap, ap₂, sym, ◌∙◌, subst, arith}
use Rattle.std.proofs.lemmas.Bool.{eqb-true, and_parts}
use Rattle.std.proofs.lemmas.Bool.Decides.{nat_tests}
use Rattle.std.proofs.lemmas.List.{length-map}
use Rattle.ls_ast.specs.declared.tree.Case.{Case}
use Rattle.ls_ast.specs.declared.tree.Form.TheOpen.{Form-F}
use Rattle.ls_ast.specs.declared.tree.Pat.{Pat}
use Rattle.ls_terms.specs.declared.clocks.ClockTerm.{ClockTerm, fold-roll-ClockTerm, map-ClockTerm, roll-ClockTerm}
use Rattle.ls_terms.specs.declared.clocks.ClockTerm.TheOpen.{ClockTerm-F}
use Rattle.ls_sig.specs.declared.binder.Binder.{Binder}
use Rattle.ls_sig.specs.declared.binder.Binder.TheVariants as b
use Rattle.ls_sig.specs.declared.binder.Note.{Note}
use Rattle.ls_places.specs.Definitions.{note_clocks}
use Rattle.ls_places.specs.Patterns.{names_of, has_name}
use Rattle.ls_places.specs.Places.{Place, InnerArm, arms, place_of}
use Rattle.ls_places.specs.Search.{nth, signal_in}
use Rattle.ls_places.specs.declared.places.Named.{Named}
use Rattle.ls_places.specs.declared.places.Named.TheVariants as named
use Rattle.ls_places.specs.declared.places.Right.{Right}
use Rattle.ls_places.specs.declared.places.Right.TheVariants as rhs
use Rattle.ls_places.specs.declared.places.Site.{Site}
use Rattle.ls_places.specs.declared.places.Start.{Start}
use Rattle.ls_places.specs.declared.places.Transition.{Transition}
use Rattle.tree_notes.specs.Each.{Each}
use Rattle.tree_notes.specs.Order.{joined}
use Rattle.clock_rules.specs.declared.scheme.ClockScheme.{ClockScheme}
use Rattle.clock_rules.specs.Facts.{Facts}
use Rattle.clock_rules.specs.Instances.{map_facts, map_form, map_node}
use Rattle.clock_rules.specs.Layers.{Layer, map_choices}
use Rattle.clock_rules.specs.Rules as R
use Rattle.clock_rules.specs.Rules.{Pair, Clocks, AreEqual, at, sampled, opt_pairs, param_at, param_named, clock_name, is_clock_of, after_names, param_here, between, innermost, list_at, block_pairs}
use Rattle.clock_rules.specs.Terms.{on, arrow, pointwise, instance, instance_step, is_function, is_comb}
use Rattle.clock_rules.proofs.Sides.{all_left, all_right, all_both}
use Rattle.clock_rules.proofs.Substitution.{With, bottoms, induct}
use Rattle.clock_laws.specs.WellFormed.{samplings}
use Rattle.clock_laws.specs.Scoped as S
use Rattle.clock_laws.specs.Scoped.{own, named_clock, InScheme, IsWell, IsScoped}
use Rattle.clock_laws.proofs.Shrink as Sh

pub nth_map : {A B : Type 0} (f : A → B) (xs : List A) (k : ℕ) → nth (map f xs) k ≡ option_map f (nth xs k)
nth_map f [] k = refl
nth_map f (x ∷ xs) zero = refl
nth_map f (x ∷ xs) (suc k) = nth_map f xs k

drop_map : {A B : Type 0} (f : A → B) (n : ℕ) (xs : List A) → drop n (map f xs) ≡ map f (drop n xs)
drop_map f zero xs = refl
drop_map f (suc n) [] = refl
drop_map f (suc n) (x ∷ xs) = drop_map f n xs

each_drop : {A : Type 0} (P : A → Type 0) (n : ℕ) (xs : List A) → Each P xs → Each P (drop n xs)
each_drop P zero xs h = h
each_drop P (suc n) [] h = tt
each_drop P (suc n) (x ∷ xs) h = each_drop P n xs h.1

each_innermost : (P : InnerArm → Type 0) (xs : List InnerArm) (a : InnerArm) → Each P xs → innermost xs ≡ Some a → P a
each_innermost P [] a h e = absurd (cc)
each_innermost P (x ∷ []) a h e = let k : x ≡ a = cc in subst P k h.0
each_innermost P (x ∷ y ∷ xs) a h e = each_innermost P (y ∷ xs) a h.1 e

named_test : (P : ℕ → Type 0) (q r : ℕ) (qs : List ℕ) → P r → (has_name q qs ≡ true → P q) → (t : Bool) → (q == r) ≡ t → (t || has_name q qs) ≡ true → P q
named_test P q r qs h further true e f = subst P (sym (eqb-true q r e)) h
named_test P q r qs h further false e f = further f

each_named : (P : ℕ → Type 0) (q : ℕ) (qs : List ℕ) → Each P qs → has_name q qs ≡ true → P q
each_named P q [] h e = absurd (cc)
each_named P q (r ∷ qs) h e = named_test P q r qs h.0 (λ f. each_named P q qs h.1 f) (q == r) refl e

-- ---- the clock of a name

after_turn : (p : Pat) (ps : List Pat) (i r : ℕ) → ((z : ℕ) → param_at z ps (suc i) ≡ Some r → r < suc i + length ps) → (o : Option ℕ) → param_here i (λ z. param_at z ps (suc i)) o ≡ Some r → r < i + length (p ∷ ps)
after_turn p ps i r further None f = let h : i ≡ r = cc in omega (arith, h)
after_turn p ps i r further (Some z) f = let l = further z f in omega (arith, l)

after_within : (ps : List Pat) (k i r : ℕ) → param_at k ps i ≡ Some r → r < i + length ps
after_within [] k i r e = absurd (cc)
after_within (p ∷ ps) k i r e = after_turn p ps i r (λ z f. after_within ps z (suc i) r f) (after_names (names_of p) k) e

is_clock : (x : ℕ) (n : Named) → is_clock_of x n ≡ true → n ≡ named.Clock x
is_clock x (named.Clock y) f = ap named.Clock (sym (eqb-true x y f))
is_clock x (named.Match k all p) f = absurd (cc)
is_clock x (named.Present xs p) f = absurd (cc)
is_clock x (named.Active all p) f = absurd (cc)
is_clock x (named.Tested all p) f = absurd (cc)

clock_turn : (x : ℕ) (n : Named) (ns : List Named) (m r : ℕ) → (clock_name x ns (suc m) ≡ Some r → (suc m ≤ r) × (nth ns (r - suc m) ≡ Some (named.Clock x))) → (t : Bool) → is_clock_of x n ≡ t
    → (if t then Some m else clock_name x ns (suc m)) ≡ Some r → (m ≤ r) × (nth (n ∷ ns) (r - m) ≡ Some (named.Clock x))
clock_turn x n ns m r further true f g = let h : m ≡ r = cc in let d : r - m ≡ 0 = omega (arith, h) in (omega (arith, h), ap (nth (n ∷ ns)) d ∙ ap Some (is_clock x n f))
clock_turn x n ns m r further false f g =
    let q = further g in
    let l = q.0 in
    let d : r - m ≡ suc (r - suc m) = omega (arith, l) in
    (omega (arith, l), ap (nth (n ∷ ns)) d ∙ q.1)

clock_named : (x : ℕ) (ns : List Named) (m r : ℕ) → clock_name x ns m ≡ Some r → (m ≤ r) × (nth ns (r - m) ≡ Some (named.Clock x))
clock_named x [] m r e = absurd (cc)
clock_named x (n ∷ ns) m r e = clock_turn x n ns m r (λ g. clock_named x ns (suc m) r g) (is_clock_of x n) refl e

some_at : {A : Type 0} (xs : List A) (k : ℕ) → k < length xs → (x : A) × (nth xs k ≡ Some x)
some_at [] k l = absurd (omega (arith, l))
some_at (x ∷ xs) zero l = (x, refl)
some_at (x ∷ xs) (suc k) l = some_at xs k (omega (arith, l))

clocks_nth : (ns : List Note) (k : ℕ) (n : Note) → nth ns k ≡ Some n → nth (note_clocks ns) k ≡ Some n.ck
clocks_nth ns k n e = nth_map (λ (n : Note). n.ck) ns k ∙ ap (option_map (λ (n : Note). n.ck)) e

if_true : {A : Type 0} (t : Bool) (x y : A) → t ≡ true → (if t then x else y) ≡ x
if_true true x y e = refl
if_true false x y e = absurd (cc)

if_false : {A : Type 0} (t : Bool) (x y : A) → t ≡ false → (if t then x else y) ≡ y
if_false true x y e = absurd (cc)
if_false false x y e = refl

not_true : (t : Bool) → not t ≡ true → t ≡ false
not_true true e = absurd (cc)
not_true false e = refl

lt_true : (m n : ℕ) → m < n → nat_lt m n ≡ true
lt_true m n l = grind (arith, nat_tests, l)

lt_false : (m n : ℕ) → n ≤ m → nat_lt m n ≡ false
lt_false m n l = grind (arith, nat_tests, l)

if_equal : (t : Bool) (x y u v : List Pair) → AreEqual (if t then x else y) → (AreEqual x → AreEqual u) → (AreEqual y → AreEqual v) → AreEqual (if t then u else v)
if_equal true x y u v h f g = f h
if_equal false x y u v h f g = g h

both_equal : (x y u v : List Pair) → AreEqual (x ++ y) → (AreEqual x → AreEqual u) → (AreEqual y → AreEqual v) → AreEqual (u ++ v)
both_equal x y u v h f g = all_both R.IsEqual u v (f (all_left R.IsEqual x y h)) (g (all_right R.IsEqual x y h))

opt_equal : {A B : Type 0} (j : A → B) (f : A → List Pair) (f' : B → List Pair) → ((x : A) → AreEqual (f x) → AreEqual (f' (j x))) → (o : Option A) → AreEqual (opt_pairs o f) → AreEqual (opt_pairs (option_map j o) f')
opt_equal j f f' h None e = tt
opt_equal j f f' h (Some x) e = h x e

one_equal : (s t : ClockTerm) → s ≡ t → AreEqual ((s, t) ∷ [])
one_equal s t e = (e, tt)

module _ (schemes : List ClockScheme) (cases : ℕ → Option ℕ) (d : Facts Note) (cs : Clocks) (scoped : IsScoped schemes d) where
  abbrev pub shrink : ClockTerm → ClockTerm
  shrink = Sh.shrink (own d cs)

  abbrev pub N : Note → Note
  N n = record n { ck = shrink n.ck }

  abbrev pub D : Facts Note
  D = map_facts N d

  abbrev pub C : Clocks
  C = record { vars = map shrink cs.vars; blocks = map shrink cs.blocks }

  good : (t : ClockTerm) (m k : ℕ) → Some t ≡ own d cs m → on (shrink t) m k ≡ shrink (on t m k)
  good t m k e = sym (Sh.shrink_good (own d cs) t m k e)

  pub at_shrunk : (xs : List ClockTerm) (k : ℕ) → at (map shrink xs) k ≡ shrink (at xs k)
  at_shrunk xs k = ap (λ o. unwrap_or o pointwise) (nth_map shrink xs k) ∙ given (nth xs k)
    where
      given : (o : Option ClockTerm) → unwrap_or (option_map shrink o) pointwise ≡ shrink (unwrap_or o pointwise)
      given None = sym (Sh.shrink_pointwise (own d cs))
      given (Some t) = refl

  block_clock : (m : ℕ) → R.block schemes cases D C m ≡ shrink (R.block schemes cases d cs m)
  block_clock m = at_shrunk cs.blocks (m - length d.params)

  param_clock_in : (o : Option ℕ) → R.param_clock schemes cases D C o ≡ option_map shrink (R.param_clock schemes cases d cs o)
  param_clock_in None = refl
  param_clock_in (Some i) = ap (option_map (λ (n : Note). n.ck)) (nth_map N d.notes i) ∙ twice (nth d.notes i)
    where
      twice : (o : Option Note) → option_map (λ (n : Note). n.ck) (option_map N o) ≡ option_map shrink (option_map (λ (n : Note). n.ck) o)
      twice None = refl
      twice (Some n) = refl

  abbrev Home : Type 0
  Home = ClockTerm × List InnerArm

  abbrev J : Home → Home
  J m = (shrink m.0, m.1)

  with_list_in : (l : List InnerArm) (o o' : Option ClockTerm) → o' ≡ option_map shrink o → R.with_list schemes cases D C l o' ≡ option_map J (R.with_list schemes cases d cs l o)
  with_list_in l o o' e = ap (option_map (λ ck. (ck, l))) e ∙ twice o
    where
      twice : (o : Option ClockTerm) → option_map (λ ck. (ck, l)) (option_map shrink o) ≡ option_map J (option_map (λ ck. (ck, l)) o)
      twice None = refl
      twice (Some t) = refl

  meaning_in : (bound : Binder) → R.meaning schemes cases D C bound ≡ option_map J (R.meaning schemes cases d cs bound)
  meaning_in (b.Var k) = ap (λ z. Some (z, list_at d.vars k)) (at_shrunk cs.vars k)
  meaning_in (b.Param k) = with_list_in [] (R.param_clock schemes cases d cs (param_at k d.params 0)) (R.param_clock schemes cases D C (param_at k d.params 0)) (param_clock_in (param_at k d.params 0))
  meaning_in b.Nothing = refl
  meaning_in (b.Def k) = refl
  meaning_in (b.Case t k) = refl

  number_in : (bound : Binder) → R.number_or schemes cases D C bound ≡ R.number_or schemes cases d cs bound
  number_in (b.Var k) = refl
  number_in (b.Param k) = refl
  number_in b.Nothing = refl
  number_in (b.Def k) = refl
  number_in (b.Case t k) = refl

  number_is : (bound : Binder) (r : ℕ) → S.number schemes d bound ≡ Some r → R.number_or schemes cases d cs bound ≡ r
  number_is (b.Var k) r e = ap (λ o. unwrap_or o 0) e
  number_is (b.Param k) r e = ap (λ o. unwrap_or o 0) e
  number_is b.Nothing r e = absurd (cc)
  number_is (b.Def k) r e = absurd (cc)
  number_is (b.Case t k) r e = absurd (cc)

  -- a clock name's clock is that of what the name means
  abbrev Means : Binder → ℕ → Type 0
  Means bound r = (m : Home) × (R.meaning schemes cases d cs bound ≡ Some m) × (own d cs r ≡ Some m.0)

  own_var : (r k : ℕ) → clock_name k d.names (length d.params) ≡ Some r → own d cs r ≡ Some (at cs.vars k)
  own_var r k e =
      let q = clock_named k d.names (length d.params) r e in
      let l = q.0 in
      if_false (nat_lt r (length d.params)) (nth (note_clocks d.notes) r) (named_clock cs (r - length d.params) (nth d.names (r - length d.params))) (lt_false r (length d.params) l)
      ∙ ap (named_clock cs (r - length d.params)) q.1

  own_param : (r k : ℕ) → param_at k d.params 0 ≡ Some r → (n : Note) × (nth d.notes r ≡ Some n) × (own d cs r ≡ Some n.ck)
  own_param r k e =
      let l = after_within d.params k 0 r e in
      let m = scoped.many in
      let q = some_at d.notes r (omega (arith, l, m)) in (
        q.0,
        q.1,
        if_true (nat_lt r (length d.params)) (nth (note_clocks d.notes) r) (named_clock cs (r - length d.params) (nth d.names (r - length d.params))) (lt_true r (length d.params) (omega (arith, l)))
            ∙ clocks_nth d.notes r q.0 q.1,
      )

  means : (bound : Binder) (r : ℕ) → S.number schemes d bound ≡ Some r → Means bound r
  means (b.Var k) r e = ((at cs.vars k, list_at d.vars k), refl, own_var r k e)
  means (b.Param k) r e =
      let q = own_param r k e in
      ((q.0.ck, []), ap (λ o. R.with_list schemes cases d cs [] (R.param_clock schemes cases d cs o)) e ∙ ap (λ o. R.with_list schemes cases d cs [] (option_map (λ (n : Note). n.ck) o)) q.1, q.2)
  means b.Nothing r e = absurd (cc)
  means (b.Def k) r e = absurd (cc)
  means (b.Case t k) r e = absurd (cc)

  own_block : (m : ℕ) → S.is_block schemes d m ≡ true → own d cs m ≡ Some (R.block schemes cases d cs m)
  own_block m e =
      let p = and_parts (not (nat_lt m (length d.params))) (S.no_clock (nth d.names (m - length d.params))) e in
      if_false (nat_lt m (length d.params)) (nth (note_clocks d.notes) m) (named_clock cs (m - length d.params) (nth d.names (m - length d.params))) (not_true (nat_lt m (length d.params)) p.0)
      ∙ by_name (nth d.names (m - length d.params)) p.1
    where
      by_name : (o : Option Named) → S.no_clock o ≡ true → named_clock cs (m - length d.params) o ≡ Some (at cs.blocks (m - length d.params))
      by_name None f = absurd (cc)
      by_name (Some (named.Clock x)) f = absurd (cc)
      by_name (Some (named.Match k all p)) f = refl
      by_name (Some (named.Present xs p)) f = refl
      by_name (Some (named.Active all p)) f = refl
      by_name (Some (named.Tested all p)) f = refl

  -- ---- clocks in arms

  abbrev Armed : List InnerArm → Type 0
  Armed = S.ArmsNamed schemes d

  borders_equal : (ck : ClockTerm) (p : List InnerArm) → Armed p → AreEqual (R.borders schemes cases d cs ck p) → AreEqual (R.borders schemes cases D C (shrink ck) p) × (sampled (shrink ck) p ≡ shrink (sampled ck p))
  borders_equal ck [] a h = (tt, refl)
  borders_equal ck (c ∷ p) a h =
      let e = good ck c.0 c.1 (ap Some h.0 ∙ sym (own_block c.0 a.0)) in
      let r = borders_equal (on ck c.0 c.1) p a.1 h.1 in
      ((ap shrink h.0 ∙ sym (block_clock c.0), subst (λ z. AreEqual (R.borders schemes cases D C z p)) (sym e) r.0), ap (λ z. sampled z p) e ∙ r.1)

  seen_equal : (ck : ClockTerm) (p : List InnerArm) (here : ClockTerm) → Armed p → AreEqual (R.seen schemes cases d cs ck p here) → AreEqual (R.seen schemes cases D C (shrink ck) p (shrink here))
  seen_equal ck p here a h =
      let q = borders_equal ck p a (all_left R.IsEqual (R.borders schemes cases d cs ck p) ((sampled ck p, here) ∷ []) h) in
      let e = all_right R.IsEqual (R.borders schemes cases d cs ck p) ((sampled ck p, here) ∷ []) h in
      all_both R.IsEqual (R.borders schemes cases D C (shrink ck) p) ((sampled (shrink ck) p, shrink here) ∷ []) q.0 (q.1 ∙ ap shrink e.0, tt)

  used_equal : (n : Note) (p : Place) → Armed (arms p) → AreEqual (R.used schemes cases d cs n p) → AreEqual (R.used schemes cases D C (N n) p)
  used_equal n p a h =
      subst (λ o. AreEqual (opt_pairs o (λ (m : Home). if is_function n.ty then (m.0, shrink n.ck) ∷ [] else R.seen_at schemes cases D C p (shrink n.ck) m))) (sym (meaning_in n.bound))
      (opt_equal J (λ m. if is_function n.ty then (m.0, n.ck) ∷ [] else R.seen_at schemes cases d cs p n.ck m)
      (λ m. if is_function n.ty then (m.0, shrink n.ck) ∷ [] else R.seen_at schemes cases D C p (shrink n.ck) m)
      (λ m k. if_equal (is_function n.ty) ((m.0, n.ck) ∷ []) (R.seen schemes cases d cs m.0 (between m.1 p) n.ck) ((shrink m.0, shrink n.ck) ∷ []) (R.seen schemes cases D C (shrink m.0) (between m.1 p) (shrink n.ck)) k
      (λ f. (ap shrink f.0, tt)) (seen_equal m.0 (between m.1 p) n.ck (each_drop (λ (c : InnerArm). S.is_block schemes d c.0 ≡ true) (length m.1) (arms p) a)))
      (R.meaning schemes cases d cs n.bound) h)

  condition_equal : (bound : Binder) (ck : ClockTerm) → AreEqual (R.condition schemes cases d cs bound ck) → AreEqual (R.condition schemes cases D C bound (shrink ck))
  condition_equal bound ck h =
      subst (λ o. AreEqual (opt_pairs o (λ (m : Home). (m.0, shrink ck) ∷ []))) (sym (meaning_in bound))
      (opt_equal J (λ m. (m.0, ck) ∷ []) (λ m. (m.0, shrink ck) ∷ []) (λ m f. (ap shrink f.0, tt)) (R.meaning schemes cases d cs bound) h)

  -- the clock of what is sampled is the name's own
  condition_own : (bound : Binder) (r : ℕ) (ck : ClockTerm) → S.number schemes d bound ≡ Some r → AreEqual (R.condition schemes cases d cs bound ck) → Some ck ≡ own d cs r
  condition_own bound r ck e h =
      let m = means bound r e in
      let f = subst (λ o. AreEqual (opt_pairs o (λ (z : Home). (z.0, ck) ∷ []))) m.1 h in
      ap Some (sym f.0) ∙ sym m.2

  -- ---- calls

  parts_equal : (ck : ClockTerm) (ns : List Note) → AreEqual (R.parts_on schemes cases d cs ck ns) → AreEqual (R.parts_on schemes cases D C (shrink ck) (map N ns))
  parts_equal ck [] h = tt
  parts_equal ck (n ∷ ns) h = (ap shrink h.0, parts_equal ck ns h.1)

  streams_equal : (ck : ClockTerm) (ns : List Note) → AreEqual (R.streams_on schemes cases d cs ck ns) → AreEqual (R.streams_on schemes cases D C (shrink ck) (map N ns))
  streams_equal ck [] h = tt
  streams_equal ck (n ∷ ns) h =
      both_equal (if is_function n.ty then [] else (n.ck, ck) ∷ []) (R.streams_on schemes cases d cs ck ns) (if is_function n.ty then [] else (shrink n.ck, shrink ck) ∷ []) (R.streams_on schemes cases D C (shrink ck) (map N ns)) h
      (λ k. if_equal (is_function n.ty) [] ((n.ck, ck) ∷ []) [] ((shrink n.ck, shrink ck) ∷ []) k (λ z. tt) (λ f. (ap shrink f.0, tt))) (streams_equal ck ns)

  clocks_in : (ns : List Note) → note_clocks (map N ns) ≡ map shrink (note_clocks ns)
  clocks_in [] = refl
  clocks_in (n ∷ ns) = ap (λ z. shrink n.ck ∷ z) (clocks_in ns)

  given_in : (args : List Note) (p : ℕ) → R.given_names schemes cases D C (map N args) p ≡ R.given_names schemes cases d cs args p
  given_in args p = ap (λ o. unwrap_or (option_map (λ (n : Note). R.number_or schemes cases D C n.bound) o) 0) (nth_map N args p) ∙ alike (nth args p)
    where
      alike : (o : Option Note) → unwrap_or (option_map (λ (n : Note). R.number_or schemes cases D C n.bound) (option_map N o)) 0 ≡ unwrap_or (option_map (λ (n : Note). R.number_or schemes cases d cs n.bound) o) 0
      alike None = refl
      alike (Some n) = number_in n.bound

  meet_equal : (cks : List ClockTerm) (ns : List Note) → AreEqual (R.meet schemes cases d cs cks ns) → AreEqual (R.meet schemes cases D C (map shrink cks) (map N ns))
  meet_equal [] [] h = tt
  meet_equal [] (n ∷ ns) h = tt
  meet_equal (ck ∷ cks) [] h = tt
  meet_equal (ck ∷ cks) (n ∷ ns) h = (ap shrink h.0, meet_equal cks ns h.1)

  meet_at : (cks : List ClockTerm) (ns : List Note) (q : ℕ) (ck : ClockTerm) (n : Note) → AreEqual (R.meet schemes cases d cs cks ns) → nth cks q ≡ Some ck → nth ns q ≡ Some n → ck ≡ n.ck
  meet_at [] ns q ck n h e f = absurd (cc)
  meet_at (c ∷ cks) [] q ck n h e f = absurd (cc)
  meet_at (c ∷ cks) (m ∷ ns) zero ck n h e f = let k : c ≡ ck = cc in let l : m ≡ n = cc in sym k ∙ h.0 ∙ ap (λ (z : Note). z.ck) l
  meet_at (c ∷ cks) (m ∷ ns) (suc q) ck n h e f = meet_at cks ns q ck n h.1 e f

  named_equal : (args : List Note) (qs : List ℕ) → AreEqual (R.named_pairs schemes cases d cs args qs) → AreEqual (R.named_pairs schemes cases D C (map N args) qs)
  named_equal args [] h = tt
  named_equal args (q ∷ qs) h =
      both_equal (opt_pairs (nth args q) (λ n. R.condition schemes cases d cs n.bound n.ck)) (R.named_pairs schemes cases d cs args qs)
      (opt_pairs (nth (map N args) q) (λ n. R.condition schemes cases D C n.bound n.ck)) (R.named_pairs schemes cases D C (map N args) qs) h
      (λ k. subst (λ o. AreEqual (opt_pairs o (λ (n : Note). R.condition schemes cases D C n.bound n.ck))) (sym (nth_map N args q))
      (opt_equal N (λ n. R.condition schemes cases d cs n.bound n.ck) (λ n. R.condition schemes cases D C n.bound n.ck) (λ n f. condition_equal n.bound n.ck f) (nth args q) k))
      (named_equal args qs)

  abbrev At : List Note → ℕ → List Pair
  At args q = opt_pairs (nth args q) (λ (m : Note). R.condition schemes cases d cs m.bound m.ck)

  named_here : (args : List Note) (q r : ℕ) (qs : List ℕ) (n : Note) → AreEqual (At args r) → (has_name q qs ≡ true → AreEqual (R.condition schemes cases d cs n.bound n.ck)) → nth args q ≡ Some n
      → (t : Bool) → (q == r) ≡ t → (t || has_name q qs) ≡ true → AreEqual (R.condition schemes cases d cs n.bound n.ck)
  named_here args q r qs n h further f true p g = subst (λ o. AreEqual (opt_pairs o (λ (m : Note). R.condition schemes cases d cs m.bound m.ck))) (ap (nth args) (sym (eqb-true q r p)) ∙ f) h
  named_here args q r qs n h further f false p g = further g

  named_at : (args : List Note) (q : ℕ) (qs : List ℕ) (n : Note) → AreEqual (R.named_pairs schemes cases d cs args qs) → has_name q qs ≡ true → nth args q ≡ Some n → AreEqual (R.condition schemes cases d cs n.bound n.ck)
  named_at args q [] n h e f = absurd (cc)
  named_at args q (r ∷ qs) n h e f =
      named_here args q r qs n (all_left R.IsEqual (At args r) (R.named_pairs schemes cases d cs args qs) h)
      (λ g. named_at args q qs n (all_right R.IsEqual (At args r) (R.named_pairs schemes cases d cs args qs) h) g f) f (q == r) refl e

  module _ (by : List ClockTerm) where
    abbrev by' : List ClockTerm
    by' = map shrink by

    abbrev inst : List Note → ClockTerm → ClockTerm
    inst args = instance (R.given_names schemes cases d cs args) (at by)

    abbrev inst' : List Note → ClockTerm → ClockTerm
    inst' args = instance (R.given_names schemes cases D C (map N args)) (at by')

    module _ (s : ClockScheme) (args : List Note) (meets : AreEqual (R.meet schemes cases d cs (R.instances schemes cases d cs by args s.clocks) args))
        (names : AreEqual (R.named_pairs schemes cases d cs args s.names)) (gives : Each (λ q. S.IsNameAt schemes d (nth args q)) s.names) where
      own_given : (z : ClockTerm × ℕ) → InScheme s z → Some (inst args z.0) ≡ own d cs (R.given_names schemes cases d cs args z.1)
      own_given z h = by_arg (nth args z.1) refl (each_named (λ q. S.IsNameAt schemes d (nth args q)) z.1 s.names gives h.1)
        where
          by_arg : (o : Option Note) → nth args z.1 ≡ o → S.IsNameAt schemes d o → Some (inst args z.0) ≡ own d cs (R.given_names schemes cases d cs args z.1)
          by_arg None e g = absurd g
          by_arg (Some n) e g =
              let a : inst args z.0 ≡ n.ck = meet_at (R.instances schemes cases d cs by args s.clocks) args z.1 (inst args z.0) n meets (nth_map (inst args) s.clocks z.1 ∙ ap (option_map (inst args)) h.0) e in
              let c : Some n.ck ≡ own d cs g.0 = condition_own n.bound g.0 n.ck g.1 (named_at args z.1 s.names n names h.1 e) in
              let f : R.given_names schemes cases d cs args z.1 ≡ g.0 = ap (λ o. unwrap_or (option_map (λ (n : Note). R.number_or schemes cases d cs n.bound) o) 0) e ∙ number_is n.bound g.0 g.1 in
              ap Some a ∙ c ∙ ap (own d cs) (sym f)

      abbrev Inst : ClockTerm → Type 0
      Inst t = Each (InScheme s) (samplings t) → inst' args t ≡ shrink (inst args t)

      inst_roll : (x : ClockTerm-F ClockTerm) → inst args (roll-ClockTerm x) ≡ instance_step (R.given_names schemes cases d cs args) (at by) (map-ClockTerm ClockTerm ClockTerm (inst args) x)
      inst_roll x = fold-roll-ClockTerm ClockTerm (instance_step (R.given_names schemes cases d cs args) (at by)) x

      inst_roll' : (x : ClockTerm-F ClockTerm) → inst' args (roll-ClockTerm x) ≡ instance_step (R.given_names schemes cases D C (map N args)) (at by') (map-ClockTerm ClockTerm ClockTerm (inst' args) x)
      inst_roll' x = fold-roll-ClockTerm ClockTerm (instance_step (R.given_names schemes cases D C (map N args)) (at by')) x

      inst_all : (ps : List (With Inst)) → Each (InScheme s) (joined (map samplings (map (λ (p : With Inst). p.0) ps))) → map (inst' args) (map (λ (p : With Inst). p.0) ps) ≡ map shrink (map (inst args) (map (λ (p : With Inst). p.0) ps))
      inst_all [] h = refl
      inst_all (p ∷ ps) h = ap₂ (λ x y. x ∷ y) (p.1 (all_left (InScheme s) (samplings p.0) (joined (map samplings (map (λ (q : With Inst). q.0) ps))) h))
          (inst_all ps (all_right (InScheme s) (samplings p.0) (joined (map samplings (map (λ (q : With Inst). q.0) ps))) h))

      inst_at : (y : ClockTerm-F (With Inst)) → Inst (roll-ClockTerm (bottoms Inst y))
      inst_at (ClockTerm-F.Var v) h = inst_roll' (ClockTerm-F.Var v) ∙ at_shrunk by v ∙ ap shrink (sym (inst_roll (ClockTerm-F.Var v)))
      inst_at (ClockTerm-F.On p m k) h =
          let q = subst (Each (InScheme s)) (Sh.samplings_on p.0 m k) h in
          inst_roll' (ClockTerm-F.On p.0 m k) ∙ ap₂ (λ x y. on x y k) (p.1 q.1) (given_in args m)
          ∙ good (inst args p.0) (R.given_names schemes cases d cs args m) k (own_given (p.0, m) q.0) ∙ ap shrink (sym (inst_roll (ClockTerm-F.On p.0 m k)))
      inst_at ClockTerm-F.Pointwise h = inst_roll' ClockTerm-F.Pointwise ∙ sym (Sh.shrink_pointwise (own d cs)) ∙ ap shrink (sym (inst_roll ClockTerm-F.Pointwise))
      inst_at (ClockTerm-F.Arrow ps p) h =
          let ts : List ClockTerm = map (λ (q : With Inst). q.0) ps in
          let q = subst (Each (InScheme s)) (Sh.samplings_arrow ts p.0) h in
          inst_roll' (ClockTerm-F.Arrow ts p.0)
          ∙ ap₂ arrow (inst_all ps (all_left (InScheme s) (joined (map samplings ts)) (samplings p.0) q)) (p.1 (all_right (InScheme s) (joined (map samplings ts)) (samplings p.0) q))
          ∙ sym (Sh.shrink_arrow (own d cs) (map (inst args) ts) (inst args p.0)) ∙ ap shrink (sym (inst_roll (ClockTerm-F.Arrow ts p.0)))

      inst_equal : (t : ClockTerm) → Each (InScheme s) (samplings t) → inst' args t ≡ shrink (inst args t)
      inst_equal = induct Inst inst_at

      insts_equal : (ts : List ClockTerm) → Each (λ ck. Each (InScheme s) (samplings ck)) ts → R.instances schemes cases D C by' (map N args) ts ≡ map shrink (R.instances schemes cases d cs by args ts)
      insts_equal [] h = refl
      insts_equal (t ∷ ts) h = ap₂ (λ x y. x ∷ y) (inst_equal t h.0) (insts_equal ts h.1)

      rest_equal : IsWell s → arrow (drop (length (map N args)) (R.instances schemes cases D C by' (map N args) s.clocks)) (inst' args s.result)
          ≡ shrink (arrow (drop (length args) (R.instances schemes cases d cs by args s.clocks)) (inst args s.result))
      rest_equal w =
          (λ i. arrow (drop (length-map args N i) (insts_equal s.clocks w.clocks i)) (inst_equal s.result w.result i))
          ∙ ap (λ z. arrow z (shrink (inst args s.result))) (drop_map shrink (length args) (R.instances schemes cases d cs by args s.clocks))
          ∙ sym (Sh.shrink_arrow (own d cs) (drop (length args) (R.instances schemes cases d cs by args s.clocks)) (inst args s.result))

      result_equal : IsWell s → (n : Note) (holds : Bool) → AreEqual (R.result_pairs schemes cases d cs by s n args holds) → AreEqual (R.result_pairs schemes cases D C by' s (N n) (map N args) holds)
      result_equal w n holds h =
          if_equal (is_function n.ty)
          (if is_comb n.ty && not holds then [] else (arrow (drop (length args) (R.instances schemes cases d cs by args s.clocks)) (inst args s.result), n.ck) ∷ [])
          ((inst args s.result, n.ck) ∷ [])
          (if is_comb n.ty && not holds then [] else (arrow (drop (length (map N args)) (R.instances schemes cases D C by' (map N args) s.clocks)) (inst' args s.result), shrink n.ck) ∷ [])
          ((inst' args s.result, shrink n.ck) ∷ []) h
          (λ k. if_equal (is_comb n.ty && not holds) [] ((arrow (drop (length args) (R.instances schemes cases d cs by args s.clocks)) (inst args s.result), n.ck) ∷ []) []
          ((arrow (drop (length (map N args)) (R.instances schemes cases D C by' (map N args) s.clocks)) (inst' args s.result), shrink n.ck) ∷ []) k (λ z. tt) (λ f. (rest_equal w ∙ ap shrink f.0, tt)))
          (λ f. (inst_equal s.result w.result ∙ ap shrink f.0, tt))

    definition_equal : (o : Option ClockScheme) (n : Note) (args : List Note) (holds : Bool) → ((s : ClockScheme) → o ≡ Some s → IsWell s) → S.GivesNames schemes d args o
        → AreEqual (R.definition_pairs schemes cases d cs by n args holds o) → AreEqual (R.definition_pairs schemes cases D C by' (N n) (map N args) holds o)
    definition_equal None n args holds w g h = tt
    definition_equal (Some s) n args holds w g h =
        let m = all_left R.IsEqual (R.meet schemes cases d cs (R.instances schemes cases d cs by args s.clocks) args) (R.named_pairs schemes cases d cs args s.names ++ R.result_pairs schemes cases d cs by s n args holds) h in
        let k = all_right R.IsEqual (R.meet schemes cases d cs (R.instances schemes cases d cs by args s.clocks) args) (R.named_pairs schemes cases d cs args s.names ++ R.result_pairs schemes cases d cs by s n args holds) h in
        let names = all_left R.IsEqual (R.named_pairs schemes cases d cs args s.names) (R.result_pairs schemes cases d cs by s n args holds) k in
        let last = all_right R.IsEqual (R.named_pairs schemes cases d cs args s.names) (R.result_pairs schemes cases d cs by s n args holds) k in
        let well = w s refl in
        all_both R.IsEqual (R.meet schemes cases D C (R.instances schemes cases D C by' (map N args) s.clocks) (map N args)) (R.named_pairs schemes cases D C (map N args) s.names ++ R.result_pairs schemes cases D C by' s (N n) (map N args) holds)
        (subst (λ z. AreEqual (R.meet schemes cases D C z (map N args))) (sym (insts_equal s args m names g s.clocks well.clocks)) (meet_equal (R.instances schemes cases d cs by args s.clocks) args m))
        (all_both R.IsEqual (R.named_pairs schemes cases D C (map N args) s.names) (R.result_pairs schemes cases D C by' s (N n) (map N args) holds)
        (named_equal args s.names names) (result_equal s args m names g well n holds last))

    run_equal : (run : Bool) (n : Note) (args : List Note) (o : Option Home) → AreEqual (R.parameter_pairs schemes cases d cs run n args o) → AreEqual (R.parameter_pairs schemes cases D C run (N n) (map N args) (option_map J o))
    run_equal true n args None h = tt
    run_equal false n args None h = tt
    run_equal true n args (Some m) h = (ap shrink h.0 ∙ Sh.shrink_arrow (own d cs) (note_clocks args) n.ck ∙ ap (λ z. arrow z (shrink n.ck)) (sym (clocks_in args)), tt)
    run_equal false n args (Some m) h = streams_equal n.ck args h

    parameter_equal : (run : Bool) (n : Note) (args : List Note) (bound : Binder) → AreEqual (R.parameter_pairs schemes cases d cs run n args (R.meaning schemes cases d cs bound))
        → AreEqual (R.parameter_pairs schemes cases D C run (N n) (map N args) (R.meaning schemes cases D C bound))
    parameter_equal run n args bound h = subst (λ o. AreEqual (R.parameter_pairs schemes cases D C run (N n) (map N args) o)) (sym (meaning_in bound)) (run_equal run n args (R.meaning schemes cases d cs bound) h)

    module _ (wells : (k : ℕ) (s : ClockScheme) → nth schemes k ≡ Some s → IsWell s) where
      call_equal : (run : Bool) (n : Note) (args : List Note) (holds : Bool) (bound : Binder) → S.CallScoped schemes d args bound
          → AreEqual (R.call_pairs schemes cases d cs by run n args holds bound) → AreEqual (R.call_pairs schemes cases D C by' run (N n) (map N args) holds bound)
      call_equal run n args holds (b.Def k) g h = definition_equal (nth schemes k) n args holds (wells k) g h
      call_equal run n args holds (b.Var k) g h = parameter_equal run n args (b.Var k) h
      call_equal run n args holds (b.Param k) g h = parameter_equal run n args (b.Param k) h
      call_equal run n args holds b.Nothing g h = parameter_equal run n args b.Nothing h
      call_equal run n args holds (b.Case t k) g h = parameter_equal run n args (b.Case t k) h

      name_equal : (n : Note) (p : Place) (bound : Binder) → Armed (arms p) → S.CallScoped schemes d [] bound
          → AreEqual (R.name_pairs schemes cases d cs by n p bound) → AreEqual (R.name_pairs schemes cases D C by' (N n) p bound)
      name_equal n p (b.Def k) a g h = definition_equal (nth schemes k) n [] false (wells k) g h
      name_equal n p (b.Var k) a g h = used_equal n p a h
      name_equal n p (b.Param k) a g h = used_equal n p a h
      name_equal n p b.Nothing a g h = used_equal n p a h
      name_equal n p (b.Case t k) a g h = used_equal n p a h

      -- ---- expressions

      branches_equal : (ck : ClockTerm) (m m' : ℕ) → m' ≡ m → Some ck ≡ own d cs m → (all : List (Case × Note)) → AreEqual (R.branch_pairs schemes cases d cs ck m all) → AreEqual (R.branch_pairs schemes cases D C (shrink ck) m' (map_choices N all))
      branches_equal ck m m' e o [] h = tt
      branches_equal ck m m' e o (c ∷ all) h =
          (ap shrink h.0 ∙ sym (good ck m (R.case_number schemes cases d cs c.0) o) ∙ ap (λ z. on (shrink ck) z (R.case_number schemes cases d cs c.0)) (sym e), branches_equal ck m m' e o all h.1)

      own_number : (bound : Binder) (ck : ClockTerm) → S.IsName schemes d bound → AreEqual (R.condition schemes cases d cs bound ck) → Some ck ≡ own d cs (R.number_or schemes cases d cs bound)
      own_number bound ck g h = condition_own bound g.0 ck g.1 h ∙ ap (own d cs) (sym (number_is bound g.0 g.1))

      form_equal : (p : Place) (n : Note) (holds : Bool) (x : Form-F Note (Unit {0}) Note) → Armed (arms p) → S.FormScoped schemes d n x
          → AreEqual (R.form_pairs schemes cases d cs by p n holds x) → AreEqual (R.form_pairs schemes cases D C by' p (N n) holds (map_form N x))
      form_equal p n holds (Form-F.Leaf l) a g h = tt
      form_equal p n holds (Form-F.Case x) a g h = tt
      form_equal p n holds (Form-F.Var x) a g h = name_equal n p n.bound a g h
      form_equal p n holds (Form-F.Last x) a g h = used_equal n p a h
      form_equal p n holds (Form-F.Asked x) a g h = used_equal n p a h
      form_equal p n holds (Form-F.Op o args) a g h = parts_equal n.ck args h
      form_equal p n holds (Form-F.Tuple all) a g h = parts_equal n.ck all h
      form_equal p n holds (Form-F.Pre e) a g h = (ap shrink h.0, tt)
      form_equal p n holds (Form-F.Fby x y) a g h = (ap shrink h.0, (ap shrink h.1.0, tt))
      form_equal p n holds (Form-F.Init x y) a g h = (ap shrink h.0, (ap shrink h.1.0, tt))
      form_equal p n holds (Form-F.When e x k) a g h =
          let c = all_left R.IsEqual (R.condition schemes cases d cs n.bound e.ck) ((on e.ck (R.number_or schemes cases d cs n.bound) (R.case_number schemes cases d cs k), n.ck) ∷ []) h in
          let l = all_right R.IsEqual (R.condition schemes cases d cs n.bound e.ck) ((on e.ck (R.number_or schemes cases d cs n.bound) (R.case_number schemes cases d cs k), n.ck) ∷ []) h in
          all_both R.IsEqual (R.condition schemes cases D C n.bound (shrink e.ck)) ((on (shrink e.ck) (R.number_or schemes cases D C n.bound) (R.case_number schemes cases D C k), shrink n.ck) ∷ []) (condition_equal n.bound e.ck c) (
            ap (λ z. on (shrink e.ck) z (R.case_number schemes cases d cs k)) (number_in n.bound)
                ∙ good e.ck (R.number_or schemes cases d cs n.bound) (R.case_number schemes cases d cs k) (own_number n.bound e.ck g c) ∙ ap shrink l.0,
            tt,
          )
      form_equal p n holds (Form-F.Merge x all) a g h =
          let c = all_left R.IsEqual (R.condition schemes cases d cs n.bound n.ck) (R.branch_pairs schemes cases d cs n.ck (R.number_or schemes cases d cs n.bound) all) h in
          let l = all_right R.IsEqual (R.condition schemes cases d cs n.bound n.ck) (R.branch_pairs schemes cases d cs n.ck (R.number_or schemes cases d cs n.bound) all) h in
          all_both R.IsEqual (R.condition schemes cases D C n.bound (shrink n.ck)) (R.branch_pairs schemes cases D C (shrink n.ck) (R.number_or schemes cases D C n.bound) (map_choices N all)) (condition_equal n.bound n.ck c)
          (branches_equal n.ck (R.number_or schemes cases d cs n.bound) (R.number_or schemes cases D C n.bound) (number_in n.bound) (own_number n.bound n.ck g c) all l)
      form_equal p n holds (Form-F.Call run x args every) a g h = call_equal run n args holds n.bound g h

      pub node_equal : (node : Layer Note × Place) → S.NodeScoped schemes d node → AreEqual (R.node_pairs schemes cases d cs by node) → AreEqual (R.node_pairs schemes cases D C by' (map_node N node))
      node_equal node a h = form_equal node.1 node.0.note node.0.holds node.0.form a.0 a.1 h

  -- ---- equations and blocks

  pattern_equal : (x : ℕ) (o : Option InnerArm) → ((a : InnerArm) → o ≡ Some a → S.is_block schemes d a.0 ≡ true) → AreEqual (R.pattern_pairs schemes cases d cs x o) → AreEqual (R.pattern_pairs schemes cases D C x o)
  pattern_equal x None a h = tt
  pattern_equal x (Some c) a h =
      (at_shrunk cs.vars x ∙ ap shrink h.0 ∙ sym (good (R.block schemes cases d cs c.0) c.0 c.1 (sym (own_block c.0 (a c refl)))) ∙ ap (λ z. on z c.0 c.1) (sym (block_clock c.0)), tt)

  whole_equal : (k : ℕ) (f f' : Note → List Pair) → ((n : Note) → AreEqual (f n) → AreEqual (f' (N n))) → AreEqual (R.whole_pairs schemes cases d cs k f) → AreEqual (R.whole_pairs schemes cases D C k f')
  whole_equal k f f' h e = subst (λ o. AreEqual (opt_pairs o f')) (sym (nth_map N d.wholes k)) (opt_equal N f f' h (nth d.wholes k) e)

  right_seen : (x k : ℕ) (s : Site) → Armed s.inner → AreEqual (R.whole_pairs schemes cases d cs k (λ n. R.seen schemes cases d cs (at cs.vars x) s.inner n.ck))
      → AreEqual (R.whole_pairs schemes cases D C k (λ n. R.seen schemes cases D C (at C.vars x) s.inner n.ck))
  right_seen x k s a = whole_equal k (λ n. R.seen schemes cases d cs (at cs.vars x) s.inner n.ck) (λ n. R.seen schemes cases D C (at C.vars x) s.inner n.ck)
      (λ n h. subst (λ z. AreEqual (R.seen schemes cases D C z s.inner (shrink n.ck))) (sym (at_shrunk cs.vars x)) (seen_equal (at cs.vars x) s.inner n.ck a h))

  right_equal : (x : ℕ) (s : Site) (r : Right) → S.SiteScoped schemes d s → AreEqual (R.right_pairs schemes cases d cs x s r) → AreEqual (R.right_pairs schemes cases D C x s r)
  right_equal x s (rhs.Part p k) a h = right_seen x k s a.0 h
  right_equal x s (rhs.Whole k) a h = right_seen x k s a.0 h
  right_equal x s (rhs.Pattern y p) a h = pattern_equal x (innermost (arms s.place)) (λ c e. each_innermost (λ c. S.is_block schemes d c.0 ≡ true) (arms s.place) c a.1 e) h

  vars_equal : (s : Site) → S.SiteScoped schemes d s → (xs : List ℕ) → AreEqual (R.vars_pairs schemes cases d cs s xs) → AreEqual (R.vars_pairs schemes cases D C s xs)
  vars_equal s a [] h = tt
  vars_equal s a (x ∷ xs) h = both_equal (R.right_pairs schemes cases d cs x s s.right) (R.vars_pairs schemes cases d cs s xs) (R.right_pairs schemes cases D C x s s.right) (R.vars_pairs schemes cases D C s xs) h
      (right_equal x s s.right a) (vars_equal s a xs)

  sites_equal : (all : List Site) → Each (S.SiteScoped schemes d) all → AreEqual (R.sites_pairs schemes cases d cs all) → AreEqual (R.sites_pairs schemes cases D C all)
  sites_equal [] a h = tt
  sites_equal (s ∷ all) a h = both_equal (R.site_pairs schemes cases d cs s) (R.sites_pairs schemes cases d cs all) (R.site_pairs schemes cases D C s) (R.sites_pairs schemes cases D C all) h
      (vars_equal s a.0 s.vars) (sites_equal all a.1)

  begin_equal : (s : Start) (o : Option ℕ) → AreEqual (R.begin_pairs schemes cases d cs s o) → AreEqual (R.begin_pairs schemes cases D C s o)
  begin_equal s None h = tt
  begin_equal s (Some x) h = whole_equal s.right (λ n. (at cs.vars x, n.ck) ∷ []) (λ n. (at C.vars x, n.ck) ∷ []) (λ n f. (at_shrunk cs.vars x ∙ ap shrink f.0, tt)) h

  starts_equal : (all : List Start) → AreEqual (R.starts_pairs schemes cases d cs all) → AreEqual (R.starts_pairs schemes cases D C all)
  starts_equal [] h = tt
  starts_equal (s ∷ all) h = both_equal (R.start_pairs schemes cases d cs s) (R.starts_pairs schemes cases d cs all) (R.start_pairs schemes cases D C s) (R.starts_pairs schemes cases D C all) h
      (begin_equal s (place_of s.name s.list d.vars 0)) (starts_equal all)

  signal_meaning_in : (x : ℕ) (o : Option ℕ) → R.signal_meaning schemes cases D C x o ≡ option_map J (R.signal_meaning schemes cases d cs x o)
  signal_meaning_in x (Some k) = ap (λ z. Some (z, list_at d.vars k)) (at_shrunk cs.vars k)
  signal_meaning_in x None = with_list_in [] (R.param_clock schemes cases d cs (param_named x d.params 0)) (R.param_clock schemes cases D C (param_named x d.params 0)) (param_clock_in (param_named x d.params 0))

  signals_equal : (ck : ClockTerm) (p : Place) → Armed (arms p) → (xs : List ℕ) → AreEqual (R.signal_pairs schemes cases d cs ck p xs) → AreEqual (R.signal_pairs schemes cases D C (shrink ck) p xs)
  signals_equal ck p a [] h = tt
  signals_equal ck p a (x ∷ xs) h =
      both_equal (opt_pairs (R.signal_meaning schemes cases d cs x (signal_in x (arms p) d.vars 0)) (R.seen_at schemes cases d cs p ck)) (R.signal_pairs schemes cases d cs ck p xs)
      (opt_pairs (R.signal_meaning schemes cases D C x (signal_in x (arms p) d.vars 0)) (R.seen_at schemes cases D C p (shrink ck))) (R.signal_pairs schemes cases D C (shrink ck) p xs) h
      (λ k. subst (λ o. AreEqual (opt_pairs o (R.seen_at schemes cases D C p (shrink ck)))) (sym (signal_meaning_in x (signal_in x (arms p) d.vars 0)))
      (opt_equal J (R.seen_at schemes cases d cs p ck) (R.seen_at schemes cases D C p (shrink ck))
      (λ m f. seen_equal m.0 (between m.1 p) ck (each_drop (λ (c : InnerArm). S.is_block schemes d c.0 ≡ true) (length m.1) (arms p) a) f) (R.signal_meaning schemes cases d cs x (signal_in x (arms p) d.vars 0)) k))
      (signals_equal ck p a xs)

  conditions_equal : (ck : ClockTerm) (gs : List Transition) → AreEqual (R.conditions_on schemes cases d cs ck gs) → AreEqual (R.conditions_on schemes cases D C (shrink ck) gs)
  conditions_equal ck [] h = tt
  conditions_equal ck (g ∷ gs) h = both_equal (R.whole_pairs schemes cases d cs g.cond (λ n. (n.ck, ck) ∷ [])) (R.conditions_on schemes cases d cs ck gs)
      (R.whole_pairs schemes cases D C g.cond (λ n. (n.ck, shrink ck) ∷ [])) (R.conditions_on schemes cases D C (shrink ck) gs) h
      (whole_equal g.cond (λ n. (n.ck, ck) ∷ []) (λ n. (n.ck, shrink ck) ∷ []) (λ n f. (ap shrink f.0, tt))) (conditions_equal ck gs)

  guards_equal : (ck : ClockTerm) (m s : ℕ) → Some ck ≡ own d cs m → (all : List (ℕ × List Transition)) → AreEqual (R.guard_pairs schemes cases d cs ck m s all) → AreEqual (R.guard_pairs schemes cases D C (shrink ck) m s all)
  guards_equal ck m s o [] h = tt
  guards_equal ck m s o (gs ∷ all) h =
      both_equal (R.conditions_on schemes cases d cs (on ck m s) gs.1) (R.guard_pairs schemes cases d cs ck m (suc s) all)
      (R.conditions_on schemes cases D C (on (shrink ck) m s) gs.1) (R.guard_pairs schemes cases D C (shrink ck) m (suc s) all) h
      (λ k. subst (λ z. AreEqual (R.conditions_on schemes cases D C z gs.1)) (sym (good ck m s o)) (conditions_equal (on ck m s) gs.1 k)) (guards_equal ck m (suc s) o all)

  guards_named : (ck ck' : ClockTerm) (m s : ℕ) → ck' ≡ shrink ck → Some ck ≡ own d cs m → (all : List (ℕ × List Transition)) → AreEqual (R.guard_pairs schemes cases d cs ck m s all) → AreEqual (R.guard_pairs schemes cases D C ck' m s all)
  guards_named ck ck' m s e o all h = subst (λ z. AreEqual (R.guard_pairs schemes cases D C z m s all)) (sym e) (guards_equal ck m s o all h)

  -- the names from this number on
  abbrev From : ℕ → List Named → Type 0
  From m ns = (length d.params ≤ m) × ((j : ℕ) → nth d.names (m + j - length d.params) ≡ nth ns j)

  from_next : (m : ℕ) (n : Named) (ns : List Named) → From m (n ∷ ns) → From (suc m) ns
  from_next m n ns f =
      let l = f.0 in
      (omega (arith, l), λ j. let e : suc m + j - length d.params ≡ m + suc j - length d.params = omega arith in ap (nth d.names) e ∙ f.1 (suc j))

  block_here : (m : ℕ) (n : Named) (ns : List Named) → From m (n ∷ ns) → S.no_clock (Some n) ≡ true → S.is_block schemes d m ≡ true
  block_here m n ns f c =
      let l = f.0 in
      let e : m - length d.params ≡ m + 0 - length d.params = omega arith in
      ap₂ (λ x y. x && y) (ap not (lt_false m (length d.params) l)) (ap S.no_clock (ap (nth d.names) e ∙ f.1 0) ∙ c)

  block_equal : (m k : ℕ) → AreEqual (R.whole_pairs schemes cases d cs k (λ n. (n.ck, R.block schemes cases d cs m) ∷ [])) → AreEqual (R.whole_pairs schemes cases D C k (λ n. (n.ck, R.block schemes cases D C m) ∷ []))
  block_equal m k = whole_equal k (λ n. (n.ck, R.block schemes cases d cs m) ∷ []) (λ n. (n.ck, R.block schemes cases D C m) ∷ []) (λ n f. (ap shrink f.0 ∙ sym (block_clock m), tt))

  blocks_equal : (m : ℕ) (ns : List Named) → From m ns → S.NamesScoped schemes d ns → AreEqual (R.blocks_pairs schemes cases d cs m ns) → AreEqual (R.blocks_pairs schemes cases D C m ns)
  blocks_equal m [] f a h = tt
  blocks_equal m (named.Clock x ∷ ns) f a h = blocks_equal (suc m) ns (from_next m (named.Clock x) ns f) a h
  blocks_equal m (named.Match k all p ∷ ns) f a h =
      both_equal (R.block_pairs schemes cases d cs m (named.Match k all p)) (R.blocks_pairs schemes cases d cs (suc m) ns) (R.block_pairs schemes cases D C m (named.Match k all p)) (R.blocks_pairs schemes cases D C (suc m) ns) h
      (block_equal m k) (λ z. blocks_equal (suc m) ns (from_next m (named.Match k all p) ns f) a z)
  blocks_equal m (named.Present xs p ∷ ns) f a h =
      both_equal (R.block_pairs schemes cases d cs m (named.Present xs p)) (R.blocks_pairs schemes cases d cs (suc m) ns) (R.block_pairs schemes cases D C m (named.Present xs p)) (R.blocks_pairs schemes cases D C (suc m) ns) h
      (λ k. subst (λ z. AreEqual (R.signal_pairs schemes cases D C z p xs)) (sym (block_clock m)) (signals_equal (R.block schemes cases d cs m) p a.0 xs k))
      (λ z. blocks_equal (suc m) ns (from_next m (named.Present xs p) ns f) a.1 z)
  blocks_equal m (named.Active all p ∷ named.Tested all' p' ∷ ns) f a h =
      let f' = from_next m (named.Active all p) (named.Tested all' p' ∷ ns) f in
      let B = R.block schemes cases d cs in
      let e : suc m - 1 ≡ m = omega arith in
      let same : B (suc m) ≡ B m = h.0 in
      let o : Some (B m) ≡ own d cs (suc m) = ap Some (sym same) ∙ sym (own_block (suc m) (block_here (suc m) (named.Tested all' p') ns f' refl)) in
      let o' : Some (B (suc m)) ≡ own d cs (suc m - 1) = ap Some same ∙ sym (own_block m (block_here m (named.Active all p) (named.Tested all' p' ∷ ns) f refl)) ∙ ap (own d cs) (sym e) in (
        block_clock (suc m) ∙ ap shrink same ∙ sym (block_clock m),
        both_equal (R.guard_pairs schemes cases d cs (B m) (suc m) 0 all) (R.blocks_pairs schemes cases d cs (suc m) (named.Tested all' p' ∷ ns))
            (R.guard_pairs schemes cases D C (R.block schemes cases D C m) (suc m) 0 all) (R.blocks_pairs schemes cases D C (suc m) (named.Tested all' p' ∷ ns)) h.1
            (guards_named (B m) (R.block schemes cases D C m) (suc m) 0 (block_clock m) o all)
            (λ z. both_equal (R.guard_pairs schemes cases d cs (B (suc m)) (suc m - 1) 0 all') (R.blocks_pairs schemes cases d cs (suc (suc m)) ns)
            (R.guard_pairs schemes cases D C (R.block schemes cases D C (suc m)) (suc m - 1) 0 all') (R.blocks_pairs schemes cases D C (suc (suc m)) ns) z
            (guards_named (B (suc m)) (R.block schemes cases D C (suc m)) (suc m - 1) 0 (block_clock (suc m)) o' all')
            (λ y. blocks_equal (suc (suc m)) ns (from_next (suc m) (named.Tested all' p') ns f') a y)),
      )
  blocks_equal m (named.Active all p ∷ []) f a h = absurd a
  blocks_equal m (named.Active all p ∷ named.Clock x ∷ ns) f a h = absurd a
  blocks_equal m (named.Active all p ∷ named.Match k all' p' ∷ ns) f a h = absurd a
  blocks_equal m (named.Active all p ∷ named.Present xs p' ∷ ns) f a h = absurd a
  blocks_equal m (named.Active all p ∷ named.Active all' p' ∷ ns) f a h = absurd a
  blocks_equal m (named.Tested all p ∷ ns) f a h = absurd a

  from_first : From (length d.params) d.names
  from_first = (omega arith, λ j. let e : length d.params + j - length d.params ≡ j = omega arith in ap (nth d.names) e)

  pub equations_equal : AreEqual (R.equation_pairs schemes cases d cs) → AreEqual (R.equation_pairs schemes cases D C)
  equations_equal h =
      both_equal (R.sites_pairs schemes cases d cs d.sites) (R.starts_pairs schemes cases d cs d.starts ++ R.blocks_pairs schemes cases d cs (length d.params) d.names)
      (R.sites_pairs schemes cases D C d.sites) (R.starts_pairs schemes cases D C d.starts ++ R.blocks_pairs schemes cases D C (length d.params) d.names) h
      (sites_equal d.sites scoped.sites)
      (λ z. both_equal (R.starts_pairs schemes cases d cs d.starts) (R.blocks_pairs schemes cases d cs (length d.params) d.names) (R.starts_pairs schemes cases D C d.starts) (R.blocks_pairs schemes cases D C (length d.params) d.names) z
      (starts_equal d.starts) (blocks_equal (length d.params) d.names from_first scoped.names))
