-- A variable that scope takes for a clock name has its number among the clock names of the body.
use Rattle.std.specs.Prelude.{◌≡◌, refl, ℕ, zero, suc, ◌+◌, ◌==◌, ◌&&◌, ◌||◌, Bool, true, false, List, [], ◌∷◌, ◌++◌, map, slice_get, Option, Some, None, is_some, if◌then◌else◌}
use Rattle.std.specs.List.{list_any}
use Rattle.std.proofs.Common.{ap, ap₂, sym, ◌∙◌, subst, arith}
use Rattle.ls_sig.specs.declared.binder.Note.{Note}
use Rattle.ls_places.specs.Places as F
use Rattle.ls_places.specs.declared.places.Variable.{Variable}
use Rattle.tree_notes.specs.Each.{Each}
use Rattle.scope_rules.specs.Places as P
use Rattle.scope_rules.specs.Places.{Place, same_place}
use Rattle.scope_rules.specs.declared.places.Site.{Site}
use Rattle.scope_rules.specs.Faults.{clock_way, of_list, place_from, place_where, with_site, first_sites, variables}
use Rattle.scope_rules.specs.Laws.{site_key, variable_key}
use Rattle.clock_rules.specs.Facts.{Facts}
use Rattle.clock_rules.specs.Rules.{is_clock_of}
use Rattle.clock_rules.specs.declared.scheme.ClockScheme.{ClockScheme}
use Rattle.clock_premises.proofs.Lists.{or_parts, map_on, each_both, same_number}
use Rattle.clock_premises.proofs.Walk.{Good, Clocked, Clock}

abbrev Key : Type 0
Key = ℕ × Place

arms_same : (p q : Place) → same_place p q ≡ F.same_arms p q
arms_same [] [] = refl
arms_same [] (b ∷ q) = refl
arms_same (a ∷ p) [] = refl
arms_same (a ∷ p) (b ∷ q) = ap (λ z. a.0 == b.0 && (a.1 == b.1 && z)) (arms_same p q)

same_arms_self : (l : Place) → F.same_arms l l ≡ true
same_arms_self [] = refl
same_arms_self (a ∷ l) = ap₂ (λ x y. x && y) (same_number a.0) (ap₂ (λ x y. x && y) (same_number a.1) (same_arms_self l))

abbrev same_key : Key → Key → Bool
same_key h y = h.0 == y.0 && F.same_arms h.1 y.1

-- no key stands twice
abbrev Apart : List Key → Type 0
Apart [] = Unit {0}
Apart (x ∷ xs) = (list_any (same_key x) xs ≡ false) × Apart xs

none_end : (x : Key) (ks : List Key) (y : Key) → list_any (same_key x) ks ≡ false → same_key x y ≡ false → list_any (same_key x) (ks ++ y ∷ []) ≡ false
none_end x [] y a n = ap (λ z. z || false) n
none_end x (k ∷ ks) y a n = let p = or_parts (same_key x k) (list_any (same_key x) ks) a in ap₂ (λ u v. u || v) p.0 (none_end x ks y p.1 n)

apart_end : (ks : List Key) (y : Key) → Apart ks → list_any (λ h. same_key h y) ks ≡ false → Apart (ks ++ y ∷ [])
apart_end [] y a n = (refl, tt)
apart_end (x ∷ ks) y a n = let p = or_parts (same_key x y) (list_any (λ h. same_key h y) ks) n in (none_end x ks y a.0 p.0, apart_end ks y a.1 p.1)

some_if : (b : Bool) (k : ℕ) (o : Option ℕ) (r : Bool) → is_some o ≡ r → is_some (if b then Some k else o) ≡ b || r
some_if true k o r e = refl
some_if false k o r e = e

site_there : (x : ℕ) (l : Place) (ss : List Site) (k : ℕ) → is_some (place_from (of_list x l) ss k) ≡ list_any (λ h. same_key h (x, l)) (map site_key ss)
site_there x l [] k = refl
site_there x l (s ∷ ss) k =
    some_if (of_list x l s) k (place_from (of_list x l) ss (suc k)) (list_any (λ h. same_key h (x, l)) (map site_key ss)) (site_there x l ss (suc k))
    ∙ ap (λ z. (s.var == x && z) || list_any (λ h. same_key h (x, l)) (map site_key ss)) (arms_same s.list l)

with_apart : (done : List Site) (s : Site) → Apart (map site_key done) → Apart (map site_key (with_site done s))
with_apart done s a = by_case (is_some (place_where (of_list s.var s.list) done)) refl
  where
    by_case : (b : Bool) → is_some (place_where (of_list s.var s.list) done) ≡ b → Apart (map site_key (if b then done else done ++ s ∷ []))
    by_case true e = a
    by_case false e = subst Apart (sym (map_on site_key done (s ∷ []))) (apart_end (map site_key done) (site_key s) a (sym (site_there s.var s.list done 0) ∙ e))

firsts_apart : (done ss : List Site) → Apart (map site_key done) → Apart (map site_key (first_sites done ss))
firsts_apart done [] a = a
firsts_apart done (s ∷ ss) a = firsts_apart (with_site done s) ss (with_apart done s a)

with_each : (Q : Site → Type 0) (b : Bool) (done : List Site) (s : Site) → Each Q done → Q s → Each Q (if b then done else done ++ s ∷ [])
with_each Q true done s a q = a
with_each Q false done s a q = each_both Q done (s ∷ []) a (q, tt)

firsts_each : (Q : Site → Type 0) (done ss : List Site) → Each Q done → Each Q ss → Each Q (first_sites done ss)
firsts_each Q done [] a h = a
firsts_each Q done (s ∷ ss) a h = firsts_each Q (with_site done s) ss (with_each Q (is_some (place_where (of_list s.var s.list) done)) done s a h.0) h.1

each_got : {A : Type 0} (Q : A → Type 0) (xs : List A) (k : ℕ) (x : A) → Each Q xs → slice_get xs k ≡ Some x → Q x
each_got Q [] k x a e = absurd (cc)
each_got Q (y ∷ xs) zero x a e = subst Q (ap (or_item y) e) a.0
  where
    or_item : {A : Type 0} → A → Option A → A
    or_item y (Some z) = z
    or_item y None = y
each_got Q (y ∷ xs) (suc k) x a e = each_got Q xs k x a.1 e

got_mapped : {A B : Type 0} (f : A → B) (xs : List A) (k : ℕ) (x : A) → slice_get xs k ≡ Some x → slice_get (map f xs) k ≡ Some (f x)
got_mapped f [] k x e = absurd (cc)
got_mapped f (y ∷ xs) zero x e = ap (map_option f) e
  where
    map_option : {A B : Type 0} → (A → B) → Option A → Option B
    map_option f (Some z) = Some (f z)
    map_option f None = None
got_mapped f (y ∷ xs) (suc k) x e = got_mapped f xs k x e

none_got : {A : Type 0} (f : A → Bool) (xs : List A) (k : ℕ) (y : A) → list_any f xs ≡ false → slice_get xs k ≡ Some y → f y ≡ false
none_got f [] k y a e = absurd (cc)
none_got f (x ∷ xs) zero y a e = ap f (sym (ap (or_item x) e)) ∙ (or_parts (f x) (list_any f xs) a).0
  where
    or_item : {A : Type 0} → A → Option A → A
    or_item y (Some z) = z
    or_item y None = y
none_got f (x ∷ xs) (suc k) y a e = none_got f xs k y (or_parts (f x) (list_any f xs) a).1 e

abbrev or_key : Key → Option Key → Key
or_key y (Some z) = z
or_key y None = y

-- the variable at a place is the one that is found by its name and list
var_at : (vs : List Variable) (k i x : ℕ) (l : Place) → Apart (map variable_key vs) → slice_get (map variable_key vs) k ≡ Some (x, l) → F.place_of x l vs i ≡ Some (i + k)
var_at [] k i x l a e = absurd (cc)
var_at (v ∷ vs) zero i x l a e =
    let z : i ≡ i + 0 = omega arith in
    let same : variable_key v ≡ (x, l) = ap (or_key (variable_key v)) e in
    let here : v.name == v.name && F.same_arms v.list v.list ≡ true = ap₂ (λ y z. y && z) (same_number v.name) (same_arms_self v.list) in
    subst (λ (y : Key). (if v.name == y.0 && F.same_arms v.list y.1 then Some i else F.place_of y.0 y.1 vs (suc i)) ≡ Some (i + 0)) same
    (ap (λ (b : Bool). if b then Some i else F.place_of v.name v.list vs (suc i)) here ∙ ap Some z)
var_at (v ∷ vs) (suc k) i x l a e =
    let z : suc i + k ≡ i + suc k = omega arith in
    let other : v.name == x && F.same_arms v.list l ≡ false = none_got (same_key (variable_key v)) (map variable_key vs) k (x, l) a.0 e in
    ap (λ (b : Bool). if b then Some i else F.place_of x l vs (suc i)) other ∙ var_at vs k (suc i) x l a.1 e ∙ ap Some z

module _ (schemes : List ClockScheme) (d : Facts Note) (cases : ℕ → Option ℕ) where
  pub clock_number : (f : P.Contents Note) (g : F.Found Note) (signal : _) → Good schemes d cases signal f g → map site_key (variables f.sites) ≡ map variable_key g.vars
      → (k : ℕ) (s : Site) → slice_get (variables f.sites) k ≡ Some s → clock_way s.way ≡ true → list_any (is_clock_of k) g.names ≡ true
  clock_number f g signal h same k s e c =
      let apart : Apart (map variable_key g.vars) = subst Apart same (firsts_apart [] f.sites tt) in
      let mine : Clock schemes d cases signal s.var s.list g = each_got (Clocked schemes d cases signal g) (variables f.sites) k s (firsts_each (Clocked schemes d cases signal g) [] f.sites tt h.clocks) e c in
      let there : slice_get (map variable_key g.vars) k ≡ Some (s.var, s.list) = ap (λ z. slice_get z k) (sym same) ∙ got_mapped site_key (variables f.sites) k s e in
      let found : Some mine.number ≡ Some (0 + k) = sym mine.is ∙ var_at g.vars k 0 s.var s.list apart there in
      let z : 0 + k ≡ k = omega arith in
      subst (λ j. list_any (is_clock_of j) g.names ≡ true) (ap (or_number 0) found ∙ z) mine.named
    where
      or_number : ℕ → Option ℕ → ℕ
      or_number n (Some j) = j
      or_number n None = n
