-- The last binding of a name and a list tells whether one more is bound again.
use Rattle.std.specs.Prelude.{◌≡◌, ℕ, ◌==◌, nat_lt, nat_eq, ◌&&◌, ◌||◌, not, cond, Bool, true, false, List, [], ◌∷◌, ◌++◌, Option, Some, None, option_map, ◌⊎◌}
use Rattle.std.proofs.Common.{inl, inr, refl, sym, ◌∙◌, ap, ap₂, subst, arith}
use Rattle.std.specs.List.{list_any}
use Rattle.std.specs.Cmp.Lexicographic.{pointwise}
use Rattle.std.specs.Cmp.{IsEquivalence}
use Rattle.std.proofs.lemmas.Cmp.{nat_list_eq_equiv}
use Rattle.std.proofs.lemmas.Bool.{eqb-true, eq-eqb, ltb-true, lt-ltb}
use Rattle.scope_rules.specs.Places.{OneArm, Place, same_place, later}
use Rattle.scope_rules.specs.declared.places.Site.{Site}
use Rattle.scope_rules.specs.Faults.{any_two, same_variable, again}
use Rattle.ls_scope.specs.Keys.{flat, key, key_of}
use Rattle.ls_scope.specs.Last.{or_this, last_where, has_key, last_place, after_place}

-- Bool.

pub or_parts : (a b : Bool) → a || b ≡ false → (a ≡ false) × (b ≡ false)
or_parts true b h = absurd (cc)
or_parts false b h = (refl, h)

pub and_parts : (a b : Bool) → a && b ≡ true → (a ≡ true) × (b ≡ true)
and_parts true b h = (refl, h)
and_parts false b h = absurd (cc)

and_both : (a b : Bool) → a ≡ true → b ≡ true → a && b ≡ true
and_both true b h k = k
and_both false b h k = h

or_left : (a b : Bool) → a ≡ true → a || b ≡ true
or_left true b h = refl
or_left false b h = absurd (cc)

or_right : (a b : Bool) → b ≡ true → a || b ≡ true
or_right true b h = refl
or_right false b h = h

pub or_cases : (a b : Bool) → a || b ≡ true → (a ≡ true) ⊎ (b ≡ true)
or_cases true b h = inl refl
or_cases false b h = inr h

-- what is implied adds nothing
absorb : (a b : Bool) → (a ≡ true → b ≡ true) → a || b ≡ b
absorb true b f = sym (f refl)
absorb false b f = refl

not_false : (a : Bool) → not a ≡ false → a ≡ true
not_false true h = refl
not_false false h = absurd (cc)

not_true : (a : Bool) → not a ≡ true → a ≡ false
not_true true h = absurd (cc)
not_true false h = refl

and_not : (a b : Bool) → a && not b ≡ false → a ≡ true → b ≡ true
and_not true b h k = not_false b h
and_not false b h k = absurd (cc)

or_false : (a : Bool) → a || false ≡ a
or_false true = refl
or_false false = refl

abbrev or_some : {A : Type 0} → A → Option A → A
or_some d (Some x) = x
or_some d None = d

some_inj : {A : Type 0} {x y : A} → Some x ≡ Some y → x ≡ y
some_inj {A} {x} e = ap (or_some x) e

true_false : (a : Bool) → a ≡ true → a ≡ false → ⊥
true_false a h k = absurd (cc)

-- Places.

pub place_same : (p q : Place) → same_place p q ≡ true → p ≡ q
place_same [] [] h = refl
place_same [] (b ∷ q) h = absurd (cc)
place_same (a ∷ p) [] h = absurd (cc)
place_same (a ∷ p) (b ∷ q) h =
    let x = and_parts (a.0 == b.0) (a.1 == b.1 && same_place p q) h in
    let y = and_parts (a.1 == b.1) (same_place p q) x.1 in
    ap₂ (λ c r. c ∷ r) (λ i. (eqb-true a.0 b.0 x.0 i, eqb-true a.1 b.1 y.0 i)) (place_same p q y.1)

pub same_refl : (p : Place) → same_place p p ≡ true
same_refl [] = refl
same_refl (a ∷ p) = and_both (a.0 == a.0) _ (eq-eqb a.0 a.0 refl) (and_both (a.1 == a.1) _ (eq-eqb a.1 a.1 refl) (same_refl p))

-- `later` is transitive
later_head : (a b c : OneArm) (p q r : Place) → (later p q ≡ true → later q r ≡ true → later p r ≡ true)
    → (nat_lt a.1 b.1 ≡ true) ⊎ (a.1 == b.1 && later p q ≡ true) → (nat_lt b.1 c.1 ≡ true) ⊎ (b.1 == c.1 && later q r ≡ true)
    → nat_lt a.1 c.1 || (a.1 == c.1 && later p r) ≡ true
later_head a b c p q r f (inl h) (inl k) =
    let x = ltb-true a.1 b.1 h in let y = ltb-true b.1 c.1 k in or_left _ _ (lt-ltb a.1 c.1 (omega (arith, x, y)))
later_head a b c p q r f (inl h) (inr k) =
    let x = ltb-true a.1 b.1 h in let y = eqb-true b.1 c.1 (and_parts (b.1 == c.1) _ k).0 in or_left _ _ (lt-ltb a.1 c.1 (omega (arith, x, y)))
later_head a b c p q r f (inr h) (inl k) =
    let x = eqb-true a.1 b.1 (and_parts (a.1 == b.1) _ h).0 in let y = ltb-true b.1 c.1 k in or_left _ _ (lt-ltb a.1 c.1 (omega (arith, x, y)))
later_head a b c p q r f (inr h) (inr k) =
    let x = and_parts (a.1 == b.1) _ h in let y = and_parts (b.1 == c.1) _ k in
    or_right (nat_lt a.1 c.1) _ (and_both (a.1 == c.1) _ (eq-eqb a.1 c.1 (eqb-true a.1 b.1 x.0 ∙ eqb-true b.1 c.1 y.0)) (f x.1 y.1))

pub later_trans : (p q r : Place) → later p q ≡ true → later q r ≡ true → later p r ≡ true
later_trans [] q r h k = absurd (cc)
later_trans (a ∷ p) [] r h k = absurd (cc)
later_trans (a ∷ p) (b ∷ q) [] h k = absurd (cc)
later_trans (a ∷ p) (b ∷ q) (c ∷ r) h k =
    let x = and_parts (a.0 == b.0) _ h in
    let y = and_parts (b.0 == c.0) _ k in
    and_both (a.0 == c.0) _ (eq-eqb a.0 c.0 (eqb-true a.0 b.0 x.0 ∙ eqb-true b.0 c.0 y.0))
    (later_head a b c p q r (later_trans p q r) (or_cases _ _ x.1) (or_cases _ _ y.1))

-- The last binding of a variable tells whether one more is a fault.

abbrev pub after_last : Option (Site) → Site → Bool
after_last None t = false
after_last (Some u) t = not (later u.inner t.inner)

abbrev pub last_bound : List (Site) → Site → Option (Site)
last_bound done t = last_where (λ s. same_variable s t) done

same_parts : (s t : Site) → same_variable s t ≡ true → (s.var ≡ t.var) × (s.list ≡ t.list)
same_parts s t h = let x = and_parts (s.var == t.var) _ h in (eqb-true s.var t.var x.0, place_same s.list t.list x.1)

same_of : (s t : Site) → s.var ≡ t.var → s.list ≡ t.list → same_variable s t ≡ true
same_of s t e f = and_both (s.var == t.var) _ (eq-eqb s.var t.var e) (subst (λ l. same_place s.list l ≡ true) f (same_refl s.list))

same_by : (s t u : Site) → same_variable s t ≡ true → same_variable u t ≡ true → same_variable s u ≡ true
same_by s t u h k = let x = same_parts s t h in let y = same_parts u t k in same_of s u (x.0 ∙ sym y.0) (x.1 ∙ sym y.1)

found_this : (q f : Site → Bool) (o : Option (Site)) (s u : Site) → ((v : Site) → o ≡ Some v → (q v ≡ false) × (f v ≡ true)) → q s ≡ false
    → or_this o (f s) s ≡ Some u → (q u ≡ false) × (f u ≡ true)
found_this q f (Some v) s u h k e = h u e
found_this q f None s u h k e = by_test (f s) refl e
  where
    by_test : (b : Bool) → f s ≡ b → or_this None b s ≡ Some u → (q u ≡ false) × (f u ≡ true)
    by_test true is e = let same : s ≡ u = some_inj e in (sym (ap q same) ∙ k, sym (ap f same) ∙ is)
    by_test false is e = absurd (cc)

-- what is found last is of the list, and passes the test
last_fact : (q f : Site → Bool) (ss : List (Site)) → list_any q ss ≡ false → (u : Site) → last_where f ss ≡ Some u → (q u ≡ false) × (f u ≡ true)
last_fact q f [] h u e = absurd (cc)
last_fact q f (s ∷ ss) h u e = let x = or_parts (q s) _ h in found_this q f (last_where f ss) s u (last_fact q f ss x.1) x.0 e

-- one more binding, where the last one of its variable is u
covered : (s t u : Site) → again s u ≡ false → same_variable u t ≡ true → again s t ≡ true → not (later u.inner t.inner) ≡ true
covered s t u fine same bad = by_test (later u.inner t.inner) refl
  where
    by_test : (b : Bool) → later u.inner t.inner ≡ b → not b ≡ true
    by_test false is = refl
    by_test true is =
        let x = and_parts (same_variable s t) _ bad in
        let l : later s.inner u.inner ≡ true = and_not (same_variable s u) (later s.inner u.inner) fine (same_by s t u x.0 same) in
        absurd (true_false (later s.inner t.inner) (later_trans s.inner u.inner t.inner l is) (not_true (later s.inner t.inner) x.1))

alone : (s t : Site) (b : Bool) → (b && not (later s.inner t.inner)) || false ≡ after_last (or_this None b s) t
alone s t true = or_false (not (later s.inner t.inner))
alone s t false = refl

one_more : (s t : Site) (o : Option (Site)) → ((u : Site) → o ≡ Some u → (again s u ≡ false) × (same_variable u t ≡ true))
    → again s t || after_last o t ≡ after_last (or_this o (same_variable s t) s) t
one_more s t None h = alone s t (same_variable s t)
one_more s t (Some u) h = absorb (again s t) (not (later u.inner t.inner)) (covered s t u (h u refl).0 (h u refl).1)

-- Where no two bindings so far are at fault, one more is at fault with some of them exactly where it is so with the last one of its variable.
pub last_tells : (done : List (Site)) (t : Site) → any_two again done ≡ false → list_any (λ s. again s t) done ≡ after_last (last_bound done t) t
last_tells [] t h = refl
last_tells (s ∷ ss) t h =
    let x = or_parts (list_any (again s) ss) _ h in
    ap (λ z. again s t || z) (last_tells ss t x.1)
    ∙ one_more s t (last_bound ss t) (λ u e. last_fact (again s) (λ v. same_variable v t) ss x.0 u e)

-- One more item at the end of a list.

four : (a b c d : Bool) → (a || b) || (c || d) ≡ (a || c) || (b || d)
four true b c d = refl
four false true true d = refl
four false true false d = refl
four false false c d = refl

any_more : {A : Type 0} (f : A → Bool) (xs : List A) (t : A) → list_any f (xs ++ t ∷ []) ≡ list_any f xs || f t
any_more f [] t = or_false (f t)
any_more f (x ∷ xs) t = ap (λ z. f x || z) (any_more f xs t) ∙ or_assoc (f x) (list_any f xs) (f t)
  where
    or_assoc : (a b c : Bool) → a || (b || c) ≡ (a || b) || c
    or_assoc true b c = refl
    or_assoc false b c = refl

pub two_more : {A : Type 0} (r : A → A → Bool) (xs : List A) (t : A) → any_two r (xs ++ t ∷ []) ≡ any_two r xs || list_any (λ s. r s t) xs
two_more r [] t = refl
two_more r (x ∷ xs) t =
    (λ i. any_more (r x) xs t i || two_more r xs t i) ∙ four (list_any (r x) xs) (r x t) (any_two r xs) (list_any (λ s. r s t) xs)

either_part : (a b c : Bool) → (b ≡ true → c ≡ true) → (a ≡ true) ⊎ (b ≡ true) → a || c ≡ true
either_part a b c f (inl e) = or_left a c e
either_part a b c f (inr e) = or_right a c (f e)

any_prefix : {A : Type 0} (q : A → Bool) (xs ys : List A) → list_any q xs ≡ true → list_any q (xs ++ ys) ≡ true
any_prefix q [] ys h = absurd (cc)
any_prefix q (x ∷ xs) ys h = either_part (q x) (list_any q xs) (list_any q (xs ++ ys)) (any_prefix q xs ys) (or_cases (q x) (list_any q xs) h)

two_prefix_step : {A : Type 0} (r : A → A → Bool) (x : A) (xs ys : List A) → (any_two r xs ≡ true → any_two r (xs ++ ys) ≡ true)
    → (list_any (r x) xs ≡ true) ⊎ (any_two r xs ≡ true) → list_any (r x) (xs ++ ys) || any_two r (xs ++ ys) ≡ true
two_prefix_step r x xs ys f (inl h) = or_left _ _ (any_prefix (r x) xs ys h)
two_prefix_step r x xs ys f (inr h) = or_right (list_any (r x) (xs ++ ys)) _ (f h)

pub two_prefix : {A : Type 0} (r : A → A → Bool) (xs ys : List A) → any_two r xs ≡ true → any_two r (xs ++ ys) ≡ true
two_prefix r [] ys h = absurd (cc)
two_prefix r (x ∷ xs) ys h = two_prefix_step r x xs ys (two_prefix r xs ys) (or_cases (list_any (r x) xs) (any_two r xs) h)

-- keys

flat_same : (p q : Place) → pointwise nat_eq (flat p) (flat q) ≡ same_place p q
flat_same [] [] = refl
flat_same [] (b ∷ q) = refl
flat_same (a ∷ p) [] = refl
flat_same (a ∷ p) (b ∷ q) = ap (λ z. a.0 == b.0 && (a.1 == b.1 && z)) (flat_same p q)

key_same : (s t : Site) → has_key (key t.var t.list) s ≡ same_variable s t
key_same s t =
    let e : IsEquivalence (pointwise nat_eq) = nat_list_eq_equiv in
    e.symm (key t.var t.list) (key s.var s.list) ∙ ap (λ z. s.var == t.var && z) (flat_same s.list t.list)

after_place_last : (o : Option Site) (t : Site) → after_place (option_map (λ s. s.inner) o) t.inner ≡ after_last o t
after_place_last None t = refl
after_place_last (Some u) t = refl

-- what the table tells of one more binding
pub table_tells : (done : List Site) (t : Site) → any_two again done ≡ false → list_any (λ s. again s t) done ≡ after_place (last_place (key t.var t.list) done) t.inner
table_tells done t h =
    last_tells done t h
    ∙ (λ i. after_last (last_where (λ s. sym (key_same s t) i) done) t)
    ∙ sym (after_place_last (last_where (has_key (key t.var t.list)) done) t)

put_last : {A : Type 0} (o : Option A) (b c : Bool) (x t : A) → or_this (cond c (Some t) o) b x ≡ cond c (Some t) (or_this o b x)
put_last o b true x t = refl
put_last o b false x t = refl

last_more : {A : Type 0} (f : A → Bool) (xs : List A) (t : A) → last_where f (xs ++ t ∷ []) ≡ cond (f t) (Some t) (last_where f xs)
last_more f [] t = at_end (f t)
  where
    at_end : (b : Bool) → or_this None b t ≡ cond b (Some t) None
    at_end true = refl
    at_end false = refl
last_more f (x ∷ xs) t = ap (λ o. or_this o (f x) x) (last_more f xs t) ∙ put_last (last_where f xs) (f x) (f t) x t

map_cond : {A B : Type 0} (g : A → B) (c : Bool) (t : A) (o : Option A) → option_map g (cond c (Some t) o) ≡ cond c (Some (g t)) (option_map g o)
map_cond g true t o = refl
map_cond g false t o = refl

-- the table after one more binding
pub table_more : (done : List Site) (t : Site) (k q : List ℕ) → k ≡ key t.var t.list
    → cond (pointwise nat_eq k q) (Some t.inner) (last_place q done) ≡ last_place q (done ++ t ∷ [])
table_more done t k q is =
    let e : IsEquivalence (pointwise nat_eq) = nat_list_eq_equiv in
    (λ i. cond (pointwise nat_eq (is i) q) (Some t.inner) (last_place q done))
    ∙ (λ i. cond (e.symm (key t.var t.list) q i) (Some t.inner) (last_place q done))
    ∙ sym (ap (option_map (λ s. s.inner)) (last_more (has_key q) done t) ∙ map_cond (λ s. s.inner) (has_key q t) t (last_where (has_key q) done))

-- one more binding that is not at fault
pub still_fine : (all done more : List Site) (t : Site) (b : Bool) → more ≡ done ++ t ∷ [] → any_two again done ≡ false
    → b ≡ after_place (last_place (key t.var t.list) done) t.inner → b ≡ false → any_two again more ≡ false
still_fine all done more t b is h tells fine =
    ap (any_two again) is ∙ two_more again done t ∙ ap (λ z. z || list_any (λ s. again s t) done) h ∙ table_tells done t h ∙ sym tells ∙ fine

-- one more binding that is at fault
pub found_fault : (all done more rest : List Site) (t : Site) (b : Bool) → more ≡ done ++ t ∷ [] → more ++ rest ≡ all → any_two again done ≡ false
    → b ≡ after_place (last_place (key t.var t.list) done) t.inner → b ≡ true → true ≡ any_two again all
found_fault all done more rest t b is whole h tells yes' =
    let here' : any_two again more ≡ true = ap (any_two again) is ∙ two_more again done t ∙ ap (λ z. z || list_any (λ s. again s t) done) h ∙ table_tells done t h ∙ sym tells ∙ yes' in
    sym (ap (any_two again) (sym whole) ∙ two_prefix again more rest here')
