-- One more item of a list in which none stood twice; and sets of cases.
use Rattle.std.specs.Prelude.{◌≡◌, ℕ, suc, zero, ◌+◌, ◌==◌, ◌||◌, ◌&&◌, not, Bool, true, false, List, [], ◌∷◌, ◌++◌, map, length, Option, Some, None, is_some, if◌then◌else◌, nat_eq, refl, slice_get}
use Rattle.std.proofs.Common.{ap, ap₂, sym, ◌∙◌, arith, take}
use Rattle.std.specs.List.{list_any, list_all}
use Rattle.std.specs.Cmp.{IsEquivalence}
use Rattle.std.specs.Cmp.Lexicographic.{pointwise}
use Rattle.std.proofs.lemmas.Cmp.{nat_list_eq_equiv}
use Rattle.ls_ast.specs.declared.tree.Case.{Case}
use Rattle.ls_ast.specs.declared.tree.Case.TheVariants as case
use Rattle.scope_rules.specs.declared.places.Site.{Site}
use Rattle.scope_rules.specs.Places.{OneArm, Place, same_place, holds}
use Rattle.scope_rules.specs.Claims.{Known}
use Rattle.scope_rules.specs.Faults.{any_two, repeated, among, same_case, same_start, holds_inside, above, seen_at, place_where, cover, its_type}
use Rattle.ls_scope.specs.declared.arms.CaseSet.{CaseSet}
use Rattle.ls_scope.specs.Arms.{in_set, Gains, HasJust}
use Rattle.ls_scope.specs.Keys.{flat, key, place_in, with_key}
use Rattle.ls_scope.specs.Starts.{start_key}
use Rattle.ls_scope.proofs.Bound.{two_more, two_prefix}
use Rattle.ls_scope.proofs.Lists.{any_found, any_mapped, any_same_test, all_same_test}

or_nothing : (a b : Bool) → a ≡ false → b ≡ false → a || b ≡ false
or_nothing a b h k = ap₂ (λ x y. x || y) h k

or_second : (a b : Bool) → b ≡ true → a || b ≡ true
or_second true b h = refl
or_second false b h = h

pub none_more : {A : Type 0} (r : A → A → Bool) (done more : List A) (t : A) → more ≡ done ++ t ∷ [] → any_two r done ≡ false → list_any (λ s. r s t) done ≡ false → any_two r more ≡ false
none_more r done more t is h k = ap (any_two r) is ∙ two_more r done t ∙ or_nothing (any_two r done) (list_any (λ s. r s t) done) h k

pub two_here : {A : Type 0} (r : A → A → Bool) (all done more rest : List A) (t : A) → more ≡ done ++ t ∷ [] → more ++ rest ≡ all → list_any (λ s. r s t) done ≡ true → true ≡ any_two r all
two_here r all done more rest t is whole h =
    sym (ap (any_two r) (sym whole) ∙ two_prefix r more rest (ap (any_two r) is ∙ two_more r done t ∙ or_second (any_two r done) (list_any (λ s. r s t) done) h))

pub any_end : {A : Type 0} (f : A → Bool) (xs : List A) (t : A) → list_any f (xs ++ t ∷ []) ≡ list_any f xs || f t
any_end f [] t = or_end (f t)
  where
    or_end : (b : Bool) → b || false ≡ b
    or_end true = refl
    or_end false = refl
any_end f (x ∷ xs) t = ap (λ z. f x || z) (any_end f xs t) ∙ or_assoc (f x) (list_any f xs) (f t)
  where
    or_assoc : (a b c : Bool) → a || (b || c) ≡ (a || b) || c
    or_assoc true b c = refl
    or_assoc false b c = refl

-- cases

or_true : (b : Bool) → true ≡ b || true
or_true true = refl
or_true false = refl

or_false : (b : Bool) → b ≡ b || false
or_false true = refl
or_false false = refl

pub gains_true : (s : CaseSet) → Gains s (record { yes = true; no = s.no; names = s.names }) case.True
gains_true s case.True = or_true s.yes
gains_true s case.False = or_false s.no
gains_true s (case.Of d) = or_false (among s.names d.0)

pub gains_false : (s : CaseSet) → Gains s (record { yes = s.yes; no = true; names = s.names }) case.False
gains_false s case.True = or_false s.yes
gains_false s case.False = or_true s.no
gains_false s (case.Of d) = or_false (among s.names d.0)

pub gains_name : (s : CaseSet) (n : ℕ) (names : List ℕ) → names ≡ s.names ++ n ∷ [] → Gains s (record { yes = s.yes; no = s.no; names = names }) (case.Of (record { 0 = n }))
gains_name s n names is case.True = or_false s.yes
gains_name s n names is case.False = or_false s.no
gains_name s n names is (case.Of d) = ap (λ l. among l d.0) is ∙ any_end (λ y. y == d.0) s.names n

pub has_more : (done more : List Case) (t : Case) (old new : CaseSet) → more ≡ done ++ t ∷ [] → HasJust done old → Gains old new t → HasJust more new
has_more done more t old new is h g x = g x ∙ ap (λ b. b || same_case t x) (h x) ∙ sym (ap (list_any (λ c. same_case c x)) is ∙ any_end (λ c. same_case c x) done t)

abbrev case_or : Case → Option Case → Case
case_or d (Some c) = c
case_or d None = d

pub covered : (known : Known) (first : Case) (rest : List Case) (s : CaseSet) → HasJust (first ∷ rest) s → list_all (in_set s) (its_type known first) ≡ cover known (first ∷ rest)
covered known first rest s h = all_same_test (in_set s) (λ a. list_any (λ b. same_case b a) (first ∷ rest)) (its_type known first) h

pub covered_first : (known : Known) (cs : List Case) (first : Case) (s : CaseSet) → slice_get cs 0 ≡ Some first → HasJust cs s → list_all (in_set s) (its_type known first) ≡ cover known cs
covered_first known [] first s e h = absurd (cc)
covered_first known (c ∷ cs) first s e h = ap (λ z. list_all (in_set s) (its_type known z)) (sym (ap (case_or c) e)) ∙ covered known c cs s h

pub covered_none : (known : Known) (cs : List Case) → slice_get cs 0 ≡ None → true ≡ cover known cs
covered_none known [] e = refl
covered_none known (c ∷ cs) e = absurd (cc)

-- initial equations

flat_same : (p q : Place) → pointwise nat_eq (flat p) (flat q) ≡ same_place p q
flat_same [] [] = refl
flat_same [] (b ∷ q) = refl
flat_same (a ∷ p) [] = refl
flat_same (a ∷ p) (b ∷ q) = ap (λ z. a.0 == b.0 && (a.1 == b.1 && z)) (flat_same p q)

start_matches : (s u : ℕ × Place) → pointwise nat_eq (start_key s) (start_key u) ≡ same_start u s
start_matches s u =
    let e : IsEquivalence (pointwise nat_eq) = nat_list_eq_equiv in
    e.symm (start_key s) (start_key u) ∙ ap (λ z. u.0 == s.0 && z) (flat_same u.1 s.1)

pub started : (done : List (ℕ × Place)) (s : ℕ × Place) (keys : List (List ℕ)) (k : List ℕ) → keys ≡ map start_key done → k ≡ start_key s
    → is_some (place_in keys k) ≡ list_any (λ u. same_start u s) done
started done s keys k same is =
    sym (any_found (pointwise nat_eq k) keys 0) ∙ ap₂ (λ a b. list_any (pointwise nat_eq a) b) is same
    ∙ any_mapped (pointwise nat_eq (start_key s)) start_key done ∙ any_same_test (λ u. pointwise nat_eq (start_key s) (start_key u)) (λ u. same_start u s) done (start_matches s)

starts_end : (done : List (ℕ × Place)) (s : ℕ × Place) → map start_key done ++ start_key s ∷ [] ≡ map start_key (done ++ s ∷ [])
starts_end [] s = refl
starts_end (u ∷ done) s = ap (λ z. start_key u ∷ z) (starts_end done s)

pub start_added : (done more : List (ℕ × Place)) (s : ℕ × Place) (keys : List (List ℕ)) (k : List ℕ) → more ≡ done ++ s ∷ [] → keys ≡ map start_key done → k ≡ start_key s
    → is_some (place_in keys k) ≡ false → with_key keys k ≡ map start_key more
start_added done more s keys k added same is h =
    ap (λ b. if b then keys else keys ++ k ∷ []) (any_found (pointwise nat_eq k) keys 0 ∙ h)
    ∙ ap₂ (λ a b. a ++ b ∷ []) same is ∙ starts_end done s ∙ ap (map start_key) (sym added)

-- lists around a list

and_false : (a b : Bool) → a && (b && false) ≡ false
and_false true true = refl
and_false true false = refl
and_false false b = refl

nothing_inside : (l : Place) → holds_inside l [] ≡ false
nothing_inside [] = refl
nothing_inside (a ∷ l) = refl

inside_holds : (l q : Place) (a : OneArm) → holds_inside l (q ++ a ∷ []) ≡ holds l q
inside_holds [] [] a = refl
inside_holds [] (b ∷ q) a = refl
inside_holds (b ∷ l) [] a = ap (λ z. b.0 == a.0 && (b.1 == a.1 && z)) (nothing_inside l) ∙ and_false (b.0 == a.0) (b.1 == a.1)
inside_holds (b ∷ l) (c ∷ q) a = ap (λ z. b.0 == c.0 && (b.1 == c.1 && z)) (inside_holds l q a)

false_end : (a : Bool) → a && false ≡ false
false_end true = refl
false_end false = refl

none_above : (s : Site) (vars : List Site) → s.list ≡ [] → list_any (above s) vars ≡ false
none_above s [] e = refl
none_above s (t ∷ vars) e = or_nothing (above s t) (list_any (above s) vars) (ap (λ z. t.var == s.var && z) (ap (holds_inside t.list) e ∙ nothing_inside t.list) ∙ false_end (t.var == s.var)) (none_above s vars e)

pub above_nothing : (s : Site) (vars : List Site) (l : Place) → l ≡ s.list → l ≡ [] → false ≡ list_any (above s) vars
above_nothing s vars l e f = sym (none_above s vars (sym e ∙ f))

pub above_seen : (s : Site) (vars : List Site) (outer : Place) (a : OneArm) (o : Option ℕ) → s.list ≡ outer ++ a ∷ [] → o ≡ place_where (seen_at s.var outer) vars → is_some o ≡ list_any (above s) vars
above_seen s vars outer a o e f =
    ap is_some f ∙ sym (any_found (seen_at s.var outer) vars 0)
    ∙ any_same_test (seen_at s.var outer) (above s) vars (λ t. ap (λ z. t.var == s.var && z) (sym (ap (holds_inside t.list) e ∙ inside_holds t.list outer a)))

inside_front : (l p : Place) (n : ℕ) → length p ≡ suc n → holds_inside l p ≡ holds l (take n p)
inside_front l [] n e = absurd (cc)
inside_front [] (a ∷ q) n e = refl
inside_front (b ∷ l) (a ∷ []) zero e = ap (λ z. b.0 == a.0 && (b.1 == a.1 && z)) (nothing_inside l) ∙ and_false (b.0 == a.0) (b.1 == a.1)
inside_front (b ∷ l) (a ∷ (c ∷ q)) zero e = absurd (omega (arith, e))
inside_front (b ∷ l) (a ∷ q) (suc m) e = ap (λ z. b.0 == a.0 && (b.1 == a.1 && z)) (inside_front l q m (omega (arith, e)))

pub above_front : (s : Site) (vars : List Site) (outer : Place) (n : ℕ) (o : Option ℕ) → length s.list ≡ suc n → outer ≡ take n s.list → o ≡ place_where (seen_at s.var outer) vars → is_some o ≡ list_any (above s) vars
above_front s vars outer n o long is f =
    ap is_some (f ∙ ap (λ z. place_where (seen_at s.var z) vars) is) ∙ sym (any_found (seen_at s.var (take n s.list)) vars 0)
    ∙ any_same_test (seen_at s.var (take n s.list)) (above s) vars (λ t. ap (λ z. t.var == s.var && z) (sym (inside_front t.list s.list n long)))

nil_of : (l : Place) → length l ≡ 0 → l ≡ []
nil_of [] e = refl
nil_of (a ∷ l) e = absurd (omega (arith, e))

pub above_empty : (s : Site) (vars : List Site) → length s.list ≡ 0 → false ≡ list_any (above s) vars
above_empty s vars e = sym (none_above s vars (nil_of s.list e))

-- numbers

pub repeated_here : (all done more rest seen : List ℕ) (t : ℕ) (b : Bool) → b ≡ among seen t → seen ≡ done → b ≡ true → more ≡ done ++ t ∷ [] → more ++ rest ≡ all → true ≡ repeated all
repeated_here all done more rest seen t b e s h m w = two_here (λ (x y : ℕ). x == y) all done more rest t m w (ap (λ l. among l t) (sym s) ∙ sym e ∙ h)

pub none_repeated : (done more seen new : List ℕ) (t : ℕ) (b : Bool) → b ≡ among seen t → seen ≡ done → b ≡ false → more ≡ done ++ t ∷ [] → repeated done ≡ false → new ≡ seen ++ t ∷ []
    → (repeated more ≡ false) × (new ≡ more)
none_repeated done more seen new t b e s h m k n =
    (none_more (λ (x y : ℕ). x == y) done more t m k (ap (λ l. among l t) (sym s) ∙ sym e ∙ h), n ∙ ap (λ l. l ++ t ∷ []) s ∙ sym m)
