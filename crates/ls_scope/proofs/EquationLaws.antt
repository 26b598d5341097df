-- The keys of what equations bind.
use Rattle.std.specs.Prelude.{◌≡◌, ℕ, ◌==◌, ◌||◌, ◌&&◌, Bool, true, false, List, [], ◌∷◌, ◌++◌, map, Option, Some, None, is_some, if◌then◌else◌, nat_eq, refl}
use Rattle.std.proofs.Common.{ap, ap₂, sym, ◌∙◌, subst}
use Rattle.std.specs.List.{list_any}
use Rattle.std.specs.Cmp.Lexicographic.{pointwise}
use Rattle.std.proofs.lemmas.Bool.{eqb-true}
use Rattle.scope_rules.specs.declared.places.Site.{Site}
use Rattle.scope_rules.specs.Places.{Place, same_place, holds}
use Rattle.scope_rules.specs.Faults.{place_where, of_list, seen_at, with_site, first_sites, variables}
use Rattle.ls_scope.specs.Keys.{key, key_of, place_in, first_seen, with_key}
use Rattle.ls_scope.specs.Starts.{with_keys}
use Rattle.ls_scope.specs.Unbound.{Binds, bound_in, seen_in}
use Rattle.ls_scope.specs.declared.unbound.Equations.{Equations}
use Rattle.ls_scope.proofs.Bound.{and_parts, place_same}
use Rattle.ls_scope.proofs.KeyLaws.{placed, seen, new_key}
use Rattle.ls_scope.proofs.Lists.{any_found}
use Rattle.ls_scope.proofs.TwiceLaws.{any_end}

one_key : (done : List Site) (s : Site) → with_key (map key_of done) (key_of s) ≡ map key_of (with_site done s)
one_key done s = by_test (is_some (place_where (of_list s.var s.list) done)) refl
  where
    by_test : (b : Bool) → is_some (place_where (of_list s.var s.list) done) ≡ b → with_key (map key_of done) (key_of s) ≡ map key_of (with_site done s)
    by_test true e =
        ap (λ b. if b then map key_of done else map key_of done ++ key_of s ∷ []) (any_found (pointwise nat_eq (key_of s)) (map key_of done) 0 ∙ ap is_some (placed s.var s.list done) ∙ e)
        ∙ sym (ap (λ b. map key_of (if b then done else done ++ s ∷ [])) e)
    by_test false e =
        new_key done (done ++ s ∷ []) s (map key_of done) (key_of s) refl refl (ap is_some (placed s.var s.list done) ∙ e) refl
        ∙ sym (ap (λ b. map key_of (if b then done else done ++ s ∷ [])) e)

all_keys : (done ss : List Site) → with_keys (map key_of done) (map key_of ss) ≡ map key_of (first_sites done ss)
all_keys done [] = refl
all_keys done (s ∷ ss) = ap (λ k. with_keys k (map key_of ss)) (one_key done s) ∙ all_keys (with_site done s) ss

-- what depends on the name and the list alone holds of some variable where it holds of some binding
module _ (f : Site → Bool) (same : (s v : Site) → of_list s.var s.list v ≡ true → f v ≡ f s) where
  absorbed : (a b : Bool) → (b ≡ true → a ≡ true) → a ≡ a || b
  absorbed true b h = refl
  absorbed false true h = h refl
  absorbed false false h = refl

  or_first : (a b : Bool) → a ≡ true → a || b ≡ true
  or_first true b h = refl
  or_first false b h = absurd (cc)

  or_next' : (a b : Bool) → b ≡ true → a || b ≡ true
  or_next' true b h = refl
  or_next' false b h = h

  there : (s : Site) (done : List Site) → list_any (of_list s.var s.list) done ≡ true → f s ≡ true → list_any f done ≡ true
  there s [] h e = absurd (cc)
  there s (v ∷ done) h e = by_test (of_list s.var s.list v) refl h (there s done)
    where
      by_test : (b : Bool) → of_list s.var s.list v ≡ b → b || list_any (of_list s.var s.list) done ≡ true → (list_any (of_list s.var s.list) done ≡ true → f s ≡ true → list_any f done ≡ true) → f v || list_any f done ≡ true
      by_test true is k rest = or_first (f v) (list_any f done) (same s v is ∙ e)
      by_test false is k rest = or_next' (f v) (list_any f done) (rest k e)

  any_site : (done : List Site) (s : Site) → list_any f (with_site done s) ≡ list_any f done || f s
  any_site done s = by_test (is_some (place_where (of_list s.var s.list) done)) refl
    where
      by_test : (b : Bool) → is_some (place_where (of_list s.var s.list) done) ≡ b → list_any f (with_site done s) ≡ list_any f done || f s
      by_test true e = ap (λ b. list_any f (if b then done else done ++ s ∷ [])) e ∙ absorbed (list_any f done) (f s) (there s done (any_found (of_list s.var s.list) done 0 ∙ e))
      by_test false e = ap (λ b. list_any f (if b then done else done ++ s ∷ [])) e ∙ any_end f done s

  or_assoc : (a b c : Bool) → (a || b) || c ≡ a || (b || c)
  or_assoc true b c = refl
  or_assoc false b c = refl

  or_nothing : (a : Bool) → a ≡ a || false
  or_nothing true = refl
  or_nothing false = refl

  any_first : (done ss : List Site) → list_any f (first_sites done ss) ≡ list_any f done || list_any f ss
  any_first done [] = or_nothing (list_any f done)
  any_first done (s ∷ ss) = any_first (with_site done s) ss ∙ ap (λ b. b || list_any f ss) (any_site done s) ∙ or_assoc (list_any f done) (f s) (list_any f ss)

same_list : (x : ℕ) (l : Place) (s v : Site) → of_list s.var s.list v ≡ true → of_list x l v ≡ of_list x l s
same_list x l s v h =
    let y = and_parts (v.var == s.var) (same_place v.list s.list) h in
    ap₂ (λ a b. a == x && same_place b l) (eqb-true v.var s.var y.0) (place_same v.list s.list y.1)

same_seen : (x : ℕ) (p : Place) (s v : Site) → of_list s.var s.list v ≡ true → seen_at x p v ≡ seen_at x p s
same_seen x p s v h =
    let y = and_parts (v.var == s.var) (same_place v.list s.list) h in
    ap₂ (λ a b. a == x && holds b p) (eqb-true v.var s.var y.0) (place_same v.list s.list y.1)

keys_are : (sites : List Site) (e : Equations) → e.keys ≡ with_keys [] (map key_of sites) → e.keys ≡ map key_of (variables sites)
keys_are sites e is = is ∙ all_keys [] sites

pub binds_all : (sites : List Site) (e : Equations) → e.keys ≡ with_keys [] (map key_of sites) → Binds sites e
binds_all sites e is = (
  λ x l. ap (λ k. is_some (place_in k (key x l))) (keys_are sites e is) ∙ ap is_some (placed x l (variables sites)) ∙ sym (any_found (of_list x l) (variables sites) 0) ∙ any_first (of_list x l) (same_list x l) [] sites,
  λ x p. ap (λ k. is_some (first_seen k x p)) (keys_are sites e is) ∙ ap is_some (seen x p (variables sites)) ∙ sym (any_found (seen_at x p) (variables sites) 0) ∙ any_first (seen_at x p) (same_seen x p) [] sites,
)
