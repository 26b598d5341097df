-- Names in order of first appearance, over a list of keys that have spellings.
use Rattle.std.proofs.Common.{◌≡◌, ℕ, zero, suc, ◌+◌, ◌<◌, Bool, true, false, ◌||◌, List, [], ◌∷◌, ◌++◌, length, take, map, get_or, slice_get, Some, Contains, refl, sym, ap, subst, ◌∙◌, true≢false, add-one, arith}
use Rattle.std.specs.List.{list_any, position, IsDistinct}
use Rattle.std.specs.Option.{option_map}
use Rattle.std.specs.Str.{bytes_eq}
use Rattle.std.proofs.lemmas.Option.{slice_get-map, slice_get_within, get_or_from_slice_get, slice_get-get_or}
use Rattle.std.proofs.lemmas.List.Quantifiers.{position-Some}
use Rattle.std.proofs.lemmas.Map.Views.{list_any-from_Contains}
use Rattle.std.proofs.lemmas.Map.Keys.{apart_from_distinct}
use Rattle.std.proofs.lemmas.Cmp.{nat_list_eq_equiv}
use Rattle.std.proofs.lemmas.Slice.Eq.{bytes_eq-Decides}
use Rattle.std.proofs.lemmas.List.{map-append, length-map}
use Rattle.std.proofs.Math.ListN.{get_or-map}
use Rattle.std.proofs.Math.Seq.{take-suc}
use Rattle.std.proofs.lemmas.Grind.{common_steps}
use Rattle.std.proofs.lemmas.Bool.{cond-true, cond-false}
use Rattle.indexmap.proofs.CallerLemmas.{Contains-list_any}
use Rattle.indexmap.specs.IndexSet.{insert_key}
use Rattle.ls_base.specs.Names.{Distinct, with_name}

same_bytes : (a b : List ℕ) → bytes_eq a b ≡ true → a ≡ b
same_bytes a b e = (bytes_eq-Decides a b).0 e

pub slice_get-append : {X : Type 0} (xs ys : List X) (n : ℕ) (x : X) → slice_get xs n ≡ Some x → slice_get (xs ++ ys) n ≡ Some x
slice_get-append [] ys n x e = absurd (cc)
slice_get-append (y ∷ xs) ys zero x e = e
slice_get-append (y ∷ xs) ys (suc n) x e = slice_get-append xs ys n x e

pub slice_get-last : {X : Type 0} (xs : List X) (x : X) → slice_get (xs ++ x ∷ []) (length xs) ≡ Some x
slice_get-last [] x = refl
slice_get-last (y ∷ xs) x = slice_get-last xs x

list_any-map : {X Y : Type 0} (v : X → Y) (p : Y → Bool) (xs : List X) → list_any p (map v xs) ≡ list_any (λ x. p (v x)) xs
list_any-map v p [] = refl
list_any-map v p (x ∷ xs) = ap (λ b. p (v x) || b) (list_any-map v p xs)

-- A spelling stands in a list where it is found.
pub there : (names : List (List ℕ)) (n : ℕ) (q : List ℕ) → slice_get names n ≡ Some q → Contains names q
there names n q e = (n, slice_get_within names n q e, get_or_from_slice_get names n q q e)

any_there : (names : List (List ℕ)) (q : List ℕ) → Contains names q → list_any (bytes_eq q) names ≡ true
any_there names q c = list_any-from_Contains nat_list_eq_equiv q names c

none_there : (names : List (List ℕ)) (q : List ℕ) → (Contains names q → ⊥) → list_any (bytes_eq q) names ≡ false
none_there names q never = by (list_any (bytes_eq q) names) refl
  where
    by : (b : Bool) → list_any (bytes_eq q) names ≡ b → list_any (bytes_eq q) names ≡ false
    by true e = absurd (never (Contains-list_any bytes_eq same_bytes names q e))
    by false e = e

pub with_known : (names : List (List ℕ)) (n : ℕ) (q : List ℕ) → slice_get names n ≡ Some q → names ≡ with_name names q
with_known names n q e = sym (cond-true _ _ _ (any_there names q (there names n q e)))

pub with_new : (names : List (List ℕ)) (q : List ℕ) → (Contains names q → ⊥) → with_name names q ≡ names ++ q ∷ []
with_new names q never = cond-false _ _ _ (none_there names q never)

module _ {K : Type 0} (v : K → List ℕ) where
  -- What a search by a spelling finds.
  pub found : (q : List ℕ) (ks : List K) (i : ℕ) → position (λ k. bytes_eq q (v k)) ks ≡ Some i → slice_get (map v ks) i ≡ Some q
  found q [] i e = absurd (cc)
  found q (k ∷ ks) i e =
      let s = position-Some (λ k. bytes_eq q (v k)) (k ∷ ks) i k e in
      slice_get-map v (k ∷ ks) i ∙ ap (option_map v) (slice_get-get_or (k ∷ ks) i k s.0) ∙ ap Some (sym (same_bytes q _ s.1))

  pub not_found : (q : List ℕ) (ks : List K) → list_any (λ k. bytes_eq q (v k)) ks ≡ false → Contains (map v ks) q → ⊥
  not_found q ks none c = true≢false (sym (any_there (map v ks) q c) ∙ list_any-map v (bytes_eq q) ks ∙ none)

  -- An inserted key is a name that is added.
  pub inserted : (ks : List K) (k : K) → map v (insert_key (λ x y. bytes_eq (v x) (v y)) ks k) ≡ with_name (map v ks) (v k)
  inserted ks k = by (list_any (λ y. bytes_eq (v k) (v y)) ks) refl
    where
      by : (b : Bool) → list_any (λ y. bytes_eq (v k) (v y)) ks ≡ b → map v (insert_key (λ x y. bytes_eq (v x) (v y)) ks k) ≡ with_name (map v ks) (v k)
      by true e = ap (map v) (cond-true _ _ _ e) ∙ sym (cond-true _ _ _ (list_any-map v (bytes_eq (v k)) ks ∙ e))
      by false e = ap (map v) (cond-false _ _ _ e) ∙ map-append v ks (k ∷ []) ∙ sym (cond-false _ _ _ (list_any-map v (bytes_eq (v k)) ks ∙ e))

  apart : (ks : List K) (i j : ℕ) (q : List ℕ) → IsDistinct (λ x y. bytes_eq (v x) (v y)) ks → slice_get (map v ks) i ≡ Some q → slice_get (map v ks) j ≡ Some q → i < j → ⊥
  apart [] i j q d a b less = absurd (cc)
  apart (k ∷ ks) i j q d a b less =
      let within = slice_get_within (map v (k ∷ ks)) j q b in
      let short : j < length (k ∷ ks) = subst (λ n. j < n) (length-map (k ∷ ks) v) within in
      let at_i : v (get_or (k ∷ ks) i k) ≡ q = sym (get_or-map v (k ∷ ks) i k) ∙ get_or_from_slice_get (map v (k ∷ ks)) i q (v k) a in
      let at_j : v (get_or (k ∷ ks) j k) ≡ q = sym (get_or-map v (k ∷ ks) j k) ∙ get_or_from_slice_get (map v (k ∷ ks)) j q (v k) b in
      true≢false (sym ((bytes_eq-Decides _ _).1 (at_i ∙ sym at_j)) ∙ apart_from_distinct _ (k ∷ ks) i j k d less short)

  -- Distinct keys have distinct spellings.
  pub distinct : (ks : List K) → IsDistinct (λ x y. bytes_eq (v x) (v y)) ks → Distinct (map v ks)
  distinct ks d i j q a b =
      let one : i < j → ⊥ = apart ks i j q d a b in
      let other : j < i → ⊥ = apart ks j i q d b a in
      grind arith

-- A list's next item is added to those before it, where no spelling stands twice.
pub next_added : (names : List (List ℕ)) (i : ℕ) (q : List ℕ) → Distinct names → slice_get names i ≡ Some q → with_name (take i names) q ≡ take (i + 1) names
next_added names i q d at =
    let before : (k : ℕ) → k < length (take i names) → get_or (take i names) k q ≡ q → ⊥ = λ k below is.
    let old : k < i = grind (arith, common_steps) in
    let here : get_or names k q ≡ q = grind (arith, common_steps) in
    let within : k < length names = grind (arith, common_steps) in
    let same : k ≡ i = d k i q (slice_get-get_or names k q within ∙ ap Some here) at in
    omega (arith, same, old) in
    with_new (take i names) q (λ c. before c.0 c.1 c.2) ∙ ap (λ x. take i names ++ x ∷ []) (sym (get_or_from_slice_get names i q q at))
    ∙ sym (take-suc names i q (slice_get_within names i q at)) ∙ ap (λ n. take n names) (sym (add-one i))
