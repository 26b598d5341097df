-- More guards, and more arms and states, of those that a walk goes through.
use Rattle.std.specs.Prelude.{◌≡◌, ℕ, suc, ◌+◌, ◌<◌, List, [], ◌∷◌, ◌++◌, map, length}
use Rattle.std.proofs.Common.{ap, sym, ◌∙◌, drop, get_or, add-zero, add-one, arith}
use Rattle.std.proofs.lemmas.List.{append_assoc}
use Rattle.ls_base.proofs.Built.{rest}
use Rattle.ls_places.specs.declared.around.Where.{Where}
use Rattle.ls_places.specs.declared.places.Transition.{Transition}
use Rattle.ls_places.specs.Places

module _ (N : Type 0) where
  -- one more guard
  pub guarded : {X : Type 0} (g : X → Places.AGuard N) (xs : List X) (i : ℕ) (x : X) (m j : ℕ) (w : Where) (f new whole : Places.Found N)
      → i < length xs → get_or xs i x ≡ x → Places.walk_guards N (map g (drop i xs)) m j w f ≡ whole → new ≡ (g x).walk m j w f
      → Places.walk_guards N (map g (drop (i + 1) xs)) m j w new ≡ whole
  guarded g xs i x m j w f new whole below is before one =
      ap (λ z. Places.walk_guards N (map g (drop (i + 1) xs)) m j w z) one ∙ sym (ap (λ l. Places.walk_guards N (map g l) m j w f) (rest xs i x below is)) ∙ before

  -- and its transition
  pub transited : {X : Type 0} (g : X → Places.AGuard N) (xs : List X) (i : ℕ) (x : X) (m j : ℕ) (w : Where) (f new : Places.Found N)
      (done pushed whole : List Transition) (t : Transition)
      → i < length xs → get_or xs i x ≡ x → done ++ Places.transitions N (map g (drop i xs)) m j w f ≡ whole → new ≡ (g x).walk m j w f
      → t ≡ (g x).transition m j w f → pushed ≡ done ++ t ∷ []
      → pushed ++ Places.transitions N (map g (drop (i + 1) xs)) m j w new ≡ whole
  transited g xs i x m j w f new done pushed whole t below is before one also put =
      let more : List Transition = Places.transitions N (map g (drop (i + 1) xs)) m j w ((g x).walk m j w f) in
      (λ k. put k ++ Places.transitions N (map g (drop (i + 1) xs)) m j w (one k))
      ∙ ap (λ z. (done ++ z ∷ []) ++ more) also
      ∙ append_assoc done ((g x).transition m j w f ∷ []) more
      ∙ sym (ap (λ l. done ++ Places.transitions N (map g l) m j w f) (rest xs i x below is)) ∙ before

  -- one more state
  pub stated : {X : Type 0} (s : X → Places.AState N) (xs : List X) (i : ℕ) (x : X) (m : ℕ) (w : Where) (f new whole : Places.Found N)
      → i < length xs → get_or xs i x ≡ x → Places.arms_from N m i (Places.state_walks N (map s (drop i xs))) w f ≡ whole → new ≡ (s x).walk m i w f
      → Places.arms_from N m (i + 1) (Places.state_walks N (map s (drop (i + 1) xs))) w new ≡ whole
  stated s xs i x m w f new whole below is before one =
      (λ k. Places.arms_from N m (add-one i k) (Places.state_walks N (map s (drop (i + 1) xs))) w (one k))
      ∙ sym (ap (λ l. Places.arms_from N m i (Places.state_walks N (map s l)) w f) (rest xs i x below is)) ∙ before

  -- and its strong guards
  pub strong_stated : {X : Type 0} (s : X → Places.AState N) (xs : List X) (i : ℕ) (x : X) (m : ℕ) (w : Where) (f new : Places.Found N)
      (done pushed whole : Places.Guards N) (name : ℕ) (t : List Transition)
      → i < length xs → get_or xs i x ≡ x → done ++ Places.strongs_from N m i (map s (drop i xs)) w f ≡ whole → new ≡ (s x).walk m i w f
      → name ≡ (s x).name → t ≡ (s x).strong m i w f → pushed ≡ done ++ (name, t) ∷ []
      → pushed ++ Places.strongs_from N m (i + 1) (map s (drop (i + 1) xs)) w new ≡ whole
  strong_stated s xs i x m w f new done pushed whole name t below is before one called also put =
      let more : Places.Guards N = Places.strongs_from N m (suc i) (map s (drop (i + 1) xs)) w ((s x).walk m i w f) in
      (λ k. put k ++ Places.strongs_from N m (add-one i k) (map s (drop (i + 1) xs)) w (one k))
      ∙ (λ k. (done ++ (called k, also k) ∷ []) ++ more)
      ∙ append_assoc done (((s x).name, (s x).strong m i w f) ∷ []) more
      ∙ sym (ap (λ l. done ++ Places.strongs_from N m i (map s l) w f) (rest xs i x below is)) ∙ before

  -- and its weak guards
  pub weak_stated : {X : Type 0} (s : X → Places.AState N) (xs : List X) (i : ℕ) (x : X) (m : ℕ) (w : Where) (f new : Places.Found N)
      (done pushed whole : Places.Guards N) (name : ℕ) (t : List Transition)
      → i < length xs → get_or xs i x ≡ x → done ++ Places.weaks_from N m i (map s (drop i xs)) w f ≡ whole → new ≡ (s x).walk m i w f
      → name ≡ (s x).name → t ≡ (s x).weak m i w f → pushed ≡ done ++ (name, t) ∷ []
      → pushed ++ Places.weaks_from N m (i + 1) (map s (drop (i + 1) xs)) w new ≡ whole
  weak_stated s xs i x m w f new done pushed whole name t below is before one called also put =
      let more : Places.Guards N = Places.weaks_from N m (suc i) (map s (drop (i + 1) xs)) w ((s x).walk m i w f) in
      (λ k. put k ++ Places.weaks_from N m (add-one i k) (map s (drop (i + 1) xs)) w (one k))
      ∙ (λ k. (done ++ (called k, also k) ∷ []) ++ more)
      ∙ append_assoc done (((s x).name, (s x).weak m i w f) ∷ []) more
      ∙ sym (ap (λ l. done ++ Places.weaks_from N m i (map s l) w f) (rest xs i x below is)) ∙ before

  shifted : (k n : ℕ) → suc k + n ≡ k + suc n
  shifted k n = omega arith

  -- arms that come after others
  pub arms_after : (m j : ℕ) (xs ys : List (Places.InArm N)) (w : Where) (f : Places.Found N)
      → Places.arms_from N m j (xs ++ ys) w f ≡ Places.arms_from N m (j + length xs) ys w (Places.arms_from N m j xs w f)
  arms_after m j [] ys w f = ap (λ k. Places.arms_from N m k ys w f) (sym (add-zero j))
  arms_after m j (x ∷ xs) ys w f =
      arms_after m (suc j) xs ys w (x m j w f)
      ∙ ap (λ k. Places.arms_from N m k ys w (Places.arms_from N m (suc j) xs w (x m j w f))) (shifted j (length xs))
