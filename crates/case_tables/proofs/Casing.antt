-- What the table of constructors answers.
use Rattle.std.specs.Prelude.{◌≡◌, ◌≤◌, length, refl, ℕ, zero, suc, ◌==◌, List, [], ◌∷◌, ◌++◌, Option, Some, if◌then◌else◌, Bool, true, false}
use Rattle.std.proofs.Common.{ap, sym, ◌∙◌, drop}
use Rattle.std.proofs.lemmas.List.{append-nil, drop_all}
use Rattle.ls_ast.specs.declared.tree.DefOf.{DefOf}
use Rattle.ls_ast.specs.declared.tree.DefOf.TheVariants as item
use Rattle.ls_base.specs.declared.Name.{Name}
use Rattle.ls_places.specs.Clocks.{or_else}
use Rattle.ls_places.specs.Definitions.{case_place, constructor_place, place_in}
use Rattle.term_unify.specs.Terms.{first}
use Rattle.case_tables.specs.Cases.{places_from, places, place_at}

chosen : (c : Bool) (k : ℕ) (o p : Option ℕ) → (if c then Some k else or_else o p) ≡ or_else (if c then Some k else o) p
chosen true k o p = refl
chosen false k o p = refl

first_more : (xs : List Name) (rest : List (ℕ × ℕ)) (x k : ℕ) → first (places_from xs k ++ rest) x ≡ or_else (place_in x xs k) (first rest x)
first_more [] rest x k = refl
first_more (y ∷ ys) rest x k = ap (λ o. if y.0 == x then Some k else o) (first_more ys rest x (suc k)) ∙ chosen (y.0 == x) k (place_in x ys (suc k)) (first rest x)

module _ {N : Type 0} where
  first_is : (ds : List (DefOf N)) (x : ℕ) → first (places ds) x ≡ constructor_place ds x
  first_is [] x = refl
  first_is (item.Cases line name cases ∷ ds) x = first_more cases (places ds) x 0 ∙ ap (or_else (place_in x cases 0)) (first_is ds x)
  first_is (item.Let line node name params marks notes body ∷ ds) x = first_is ds x

  place_is : (ds : List (DefOf N)) (x : ℕ) → place_at (places ds) x ≡ case_place ds x
  place_is ds zero = refl
  place_is ds (suc zero) = refl
  place_is ds (suc (suc x)) = first_is ds (suc (suc x))

  pub cases_are : (list : List (ℕ × ℕ)) (ds : List (DefOf N)) → list ≡ places ds → place_at list ≡ case_place ds
  cases_are list ds e = ap place_at e ∙ (λ i x. place_is ds x i)

  -- what was gathered to the end
  pub gathered : (list : List (ℕ × ℕ)) (ds : List (DefOf N)) (i : ℕ) → length ds ≤ i → list ++ places (drop i ds) ≡ places ds → place_at list ≡ case_place ds
  gathered list ds i over h = cases_are list ds (sym (append-nil list) ∙ ap (λ z. list ++ places z) (sym (drop_all i ds over)) ∙ h)
