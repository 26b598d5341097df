-- What is around a place goes by what is around it at the same instant alone.
use Rattle.std.specs.Prelude.{◌≡◌, refl, ℕ, Bool, List, [], ◌∷◌, Option}
use Rattle.std.proofs.Common.{ap}
use Rattle.ls_places.specs.Places.{InnerArm, Place, arms}
use Rattle.ls_places.specs.declared.places.Frame.TheVariants as frame
use Rattle.ls_places.specs.declared.definition.Key.TheVariants as key
use Rattle.kahn_model.specs.Cells.{is_case, is_yes, restarts, say}
use Rattle.kahn_model.specs.Rows.{Row, both, either}
use Rattle.kahn_model.specs.Table.{cell_in}
use Rattle.kahn_exprs.specs.declared.body.Body.{Body}
use Rattle.kahn_exprs.specs.Body.{active, active_from, active_now, again, again_from, again_now, again_too, in_arms, in_arms_now, table, too_now}

module _ (b : Body) where
  active_at : (p : List InnerArm) (r : Row Bool) (now : Option Bool) (i : ℕ) → now ≡ r i → active_now b now p i ≡ active_from b r p i
  active_at [] r now i e = e
  active_at (mj ∷ p) r now i e = active_at p (λ j. say (is_case mj.1) (table b (key.Name mj.0) j)) (say (is_case mj.1) (table b (key.Name mj.0) i)) i refl

  again_at : (p : Place) (r : Row Bool) (now : Option Bool) (i : ℕ) → now ≡ r i → again_now b now p i ≡ again_from b r p i
  again_at [] r now i e = e
  again_at (frame.Reset n ∷ p) r now i e = again_at p (λ j. either (r j) (say is_yes (table b (key.Reset n) j))) _ i (ap (λ x. either x (say is_yes (table b (key.Reset n) i))) e)
  again_at (frame.Arm m j ∷ p) r now i e = again_at p (λ k. either (r k) (say (restarts j) (table b (key.Name m) k))) _ i (ap (λ x. either x (say (restarts j) (table b (key.Name m) i))) e)

  too_at : (xs : List ℕ) (r : Row Bool) (now : Option Bool) (i : ℕ) → now ≡ r i → too_now b now xs i ≡ again_too b r xs i
  too_at [] r now i e = e
  too_at (x ∷ xs) r now i e = too_at xs (λ j. either (r j) (say is_yes (table b (key.Var x) j))) _ i (ap (λ z. either z (say is_yes (table b (key.Var x) i))) e)

  in_arms_at : (p : List InnerArm) (r : Row Bool) (now : Option Bool) (i : ℕ) → now ≡ r i → in_arms_now b now p i ≡ in_arms b r p i
  in_arms_at [] r now i e = e
  in_arms_at (mj ∷ p) r now i e = in_arms_at p (λ j. both (r j) (say (is_case mj.1) (table b (key.Name mj.0) j))) _ i (ap (λ z. both z (say (is_case mj.1) (table b (key.Name mj.0) i))) e)

  pub home_is : (p : List InnerArm) (i : ℕ) → active_now b (cell_in b.context.now.active i) p i ≡ active_from b (cell_in b.context.now.active) p i
  home_is p i = active_at p (cell_in b.context.now.active) (cell_in b.context.now.active i) i refl

  pub active_is : (p : Place) (i : ℕ) → active_now b (cell_in b.context.now.active i) (arms p) i ≡ active b p i
  active_is p i = home_is (arms p) i

  pub again_is : (p : Place) (i : ℕ) → again_now b (cell_in b.context.now.again i) p i ≡ again b p i
  again_is p i = again_at p (cell_in b.context.now.again) (cell_in b.context.now.again i) i refl

  pub too_is : (row : Row Bool) (xs : List ℕ) (i : ℕ) → too_now b (row i) xs i ≡ again_too b row xs i
  too_is row xs i = too_at xs row (row i) i refl

  pub in_arms_is : (row : Row Bool) (p : List InnerArm) (i : ℕ) → in_arms_now b (row i) p i ≡ in_arms b row p i
  in_arms_is row p i = in_arms_at p row (row i) i refl
