-- What tells whether a clock is on is there, where the names that it is sampled on are.
use Rattle.std.specs.Prelude.{◌≡◌, refl, ℕ, suc, ◌+◌, ◌-◌, ◌==◌, ◌<◌, ◌≤◌, ◌&&◌, Bool, true, false, List, [], ◌∷◌, ◌++◌, map, length, Option, Some, None, if◌then◌else◌, nat_lt}
use Rattle.std.proofs.Common.{sym, subst, arith}
use Rattle.ls_terms.specs.declared.clocks.ClockTerm.{ClockTerm, fold-roll-ClockTerm, ind-ClockTerm, map-ClockTerm, roll-ClockTerm}
use Rattle.ls_terms.specs.declared.clocks.ClockTerm.TheOpen.{ClockTerm-F}
use Rattle.ls_sig.specs.declared.binder.Note.{Note}
use Rattle.ls_places.specs.Clocks.{clocks_in}
use Rattle.ls_places.specs.Patterns.{joined}
use Rattle.ls_places.specs.Places.{InnerArm, arms}
use Rattle.ls_places.specs.Search.{Occurring, all_occurring, common, home_of, in_signature, narrow, nth, occurrences, occurs_step, outside, places_of, term_places}
use Rattle.ls_places.specs.declared.places.Named.{Named}
use Rattle.ls_places.specs.declared.places.Named.TheVariants as named
use Rattle.ls_places.specs.declared.places.Whole.{Whole}
use Rattle.ls_places.specs.declared.definition.Key.{Key}
use Rattle.ls_places.specs.declared.definition.Key.TheVariants as key
use Rattle.ls_places.specs.declared.definition.Definition.{Definition}
use Rattle.tree_notes.specs.Each.{Each}
use Rattle.kahn_model.specs.Reads as R
use Rattle.kahn_model.specs.Reads.{Shape, arm_keys, clock_keys, name_key}
use Rattle.causality_premises.specs.Premises.{There, AllThere, ClockThere, ClockKnown, names_sampled, sampled_step}
use Rattle.causality_premises.proofs.Within.{not_below}

each_left : {A : Type 0} (Q : A → Type 0) (xs ys : List A) → Each Q (xs ++ ys) → Each Q xs
each_left Q [] ys a = tt
each_left Q (x ∷ xs) ys a = (a.0, each_left Q xs ys a.1)

each_right : {A : Type 0} (Q : A → Type 0) (xs ys : List A) → Each Q (xs ++ ys) → Each Q ys
each_right Q [] ys a = a
each_right Q (x ∷ xs) ys a = each_right Q xs ys a.1

each_both : {A : Type 0} (Q : A → Type 0) (xs ys : List A) → Each Q xs → Each Q ys → Each Q (xs ++ ys)
each_both Q [] ys a b = b
each_both Q (x ∷ xs) ys a b = (a.0, each_both Q xs ys a.1 b)

module _ (d : Definition) (shapes : List Shape) (placed : Each (λ (w : Whole Note). AllThere d shapes (arm_keys (arms w.place))) d.places.exprs)
    (blocks : (i : ℕ) → suc i ≤ length d.places.names → There d shapes (key.Name (length d.params + i))) (clock_row : (i x : ℕ) → nth d.places.names i ≡ Some (named.Clock x) → There d shapes (key.Var x)) where
  abbrev A : List Key → Type 0
  A = AllThere d shapes

  abbrev Arms : List InnerArm → Type 0
  Arms p = A (arm_keys p)

  all_both : (xs ys : List Key) → A xs → A ys → A (xs ++ ys)
  all_both [] ys a b = b
  all_both (x ∷ xs) ys a b = (a.0, all_both xs ys a.1 b)

  -- the arms at home of a variable

  common_if : (c : Bool) (a : InnerArm) (r : List InnerArm) → There d shapes (key.Name a.0) → Arms r → Arms (if c then a ∷ r else [])
  common_if true a r h g = (h, g)
  common_if false a r h g = tt

  common_there : (p q : List InnerArm) → Arms p → Arms (common p q)
  common_there [] [] h = tt
  common_there [] (c ∷ q) h = tt
  common_there (a ∷ p) [] h = tt
  common_there (a ∷ p) (c ∷ q) h = common_if (a.0 == c.0 && a.1 == c.1) a (common p q) h.0 (common_there p q h.1)

  outside_if : (c : Bool) (a : InnerArm) (r : List InnerArm) → There d shapes (key.Name a.0) → Arms r → Arms (if c then [] else a ∷ r)
  outside_if true a r h g = tt
  outside_if false a r h g = (h, g)

  outside_there : (m : ℕ) (p : List InnerArm) → Arms p → Arms (outside m p)
  outside_there m [] h = tt
  outside_there m (a ∷ p) h = outside_if (a.0 == m) a (outside m p) h.0 (outside_there m p h.1)

  narrow_there : (ps : List (List InnerArm)) → Each Arms ps → Arms (narrow ps)
  narrow_there [] h = tt
  narrow_there (p ∷ []) h = h.0
  narrow_there (p ∷ q ∷ ps) h = common_there p (narrow (q ∷ ps)) h.0

  abbrev Occurs : ℕ → ClockTerm → Type 0
  Occurs w t = (p : List InnerArm) → Arms p → Each Arms (occurrences w t p)

  abbrev WithO : ℕ → Type 0
  WithO w = (t : ClockTerm) × Occurs w t

  one_if : (c : Bool) (p : List InnerArm) → Arms p → Each Arms (if c then p ∷ [] else [])
  one_if true p h = (h, tt)
  one_if false p h = tt

  all_occur : (w : ℕ) (ts : List (WithO w)) (p : List InnerArm) → Arms p → Each Arms (all_occurring (map (occurrences w) (map (λ x. x.0) ts)) p)
  all_occur w [] p h = tt
  all_occur w (t ∷ ts) p h = each_both Arms (occurrences w t.0 p) (all_occurring (map (occurrences w) (map (λ x. x.0) ts)) p) (t.1 p h) (all_occur w ts p h)

  occurs_layer : (w : ℕ) (y : ClockTerm-F (WithO w)) (p : List InnerArm) → Arms p → Each Arms (occurs_step w (map-ClockTerm ClockTerm Occurring (occurrences w) (map-ClockTerm (WithO w) ClockTerm (λ x. x.0) y)) p)
  occurs_layer w (ClockTerm-F.Var v) p h = one_if (v == w) p h
  occurs_layer w (ClockTerm-F.On t m k) p h = t.1 (outside m p) (outside_there m p h)
  occurs_layer w ClockTerm-F.Pointwise p h = tt
  occurs_layer w (ClockTerm-F.Arrow ts t) p h = each_both Arms (all_occurring (map (occurrences w) (map (λ x. x.0) ts)) p) (occurrences w t.0 p) (all_occur w ts p h) (t.1 p h)

  occurs_there : (w : ℕ) (t : ClockTerm) → Occurs w t
  occurs_there w = ind-ClockTerm (Occurs w) (λ x y from. subst (λ z. Occurs w (roll-ClockTerm z)) from (λ p h.
      subst (λ (o : Occurring). Each Arms (o p)) (sym (fold-roll-ClockTerm Occurring (occurs_step w) (map-ClockTerm (WithO w) ClockTerm (λ x. x.0) y))) (occurs_layer w y p h)))

  terms_there : (w : ℕ) (p : List InnerArm) (ts : List ClockTerm) → Arms p → Each Arms (term_places w p ts)
  terms_there w p [] h = tt
  terms_there w p (t ∷ ts) h = each_both Arms (occurrences w t p) (term_places w p ts) (occurs_there w t p h) (terms_there w p ts h)

  places_there : (w : ℕ) (xs : List (Whole Note)) → Each (λ (x : Whole Note). Arms (arms x.place)) xs → Each Arms (places_of w xs)
  places_there w [] h = tt
  places_there w (x ∷ xs) h = each_both Arms (term_places w (arms x.place) (clocks_in x.expr)) (places_of w xs) (terms_there w (arms x.place) (clocks_in x.expr) h.0) (places_there w xs h.1)

  home_there : (w : ℕ) → Arms (home_of w d.places.exprs)
  home_there w = narrow_there (places_of w d.places.exprs) (places_there w d.places.exprs placed)

  -- the name of a sampling

  name_there : (i m : ℕ) (o : Option Named) → nth d.places.names i ≡ o → There d shapes (key.Name m) → There d shapes (name_key o m)
  name_there i m None e h = h
  name_there i m (Some (named.Clock x)) e h = clock_row i x e
  name_there i m (Some (named.Match k all p)) e h = h
  name_there i m (Some (named.Present xs p)) e h = h
  name_there i m (Some (named.Active all p)) e h = h
  name_there i m (Some (named.Tested all p)) e h = h

  case_if : (c : Bool) (m : ℕ) → nat_lt m (length d.params) ≡ c → m < length d.params + length d.places.names → A (if c then [] else name_key (nth d.places.names (m - length d.params)) m ∷ [])
  case_if true m e l = tt
  case_if false m e l =
      let low : length d.params ≤ m = not_below m (length d.params) e in
      let i : ℕ = m - length d.params in
      let z : length d.params + i ≡ m = omega (arith, low) in
      (name_there i m (nth d.places.names i) refl (subst (λ k. There d shapes (key.Name k)) z (blocks i (omega (arith, low, l)))), tt)

  case_there : (m : ℕ) → m < length d.params + length d.places.names → A (R.case_keys d shapes m)
  case_there m l = case_if (nat_lt m (length d.params)) m refl l

  -- a clock

  abbrev Known : ℕ → Type 0
  Known m = m < length d.params + length d.places.names

  abbrev Is : ClockTerm → Type 0
  Is t = ClockKnown d t → ClockThere d shapes t

  abbrev With : Type 0
  With = (t : ClockTerm) × Is t

  abbrev tops : ClockTerm-F With → ClockTerm-F ClockTerm
  tops = map-ClockTerm With ClockTerm (λ x. x.0)

  home_if : (c : Bool) (w : ℕ) → A (if c then [] else arm_keys (home_of w d.places.exprs))
  home_if true w = tt
  home_if false w = home_there w

  all_is : (ts : List With) → Each Known (joined (map names_sampled (map (λ x. x.0) ts))) → A (joined (map (clock_keys d shapes) (map (λ x. x.0) ts)))
  all_is [] h = tt
  all_is (t ∷ ts) h =
      let later = joined (map names_sampled (map {A = With} {B = ClockTerm} (λ x. x.0) ts)) in
      all_both (clock_keys d shapes t.0) (joined (map (clock_keys d shapes) (map (λ x. x.0) ts))) (t.1 (each_left Known (names_sampled t.0) later h)) (all_is ts (each_right Known (names_sampled t.0) later h))

  layer : (y : ClockTerm-F With) → Each Known (sampled_step (map-ClockTerm ClockTerm (List ℕ) names_sampled (tops y))) → A (R.clock_step d shapes (map-ClockTerm ClockTerm (List Key) (clock_keys d shapes) (tops y)))
  layer (ClockTerm-F.Var w) h = home_if (in_signature d w) w
  layer (ClockTerm-F.On t m k) h = all_both (R.case_keys d shapes m) (clock_keys d shapes t.0) (case_there m h.0) (t.1 h.1)
  layer ClockTerm-F.Pointwise h = tt
  layer (ClockTerm-F.Arrow ts t) h =
      let firsts = joined (map names_sampled (map {A = With} {B = ClockTerm} (λ x. x.0) ts)) in
      all_both (joined (map (clock_keys d shapes) (map (λ x. x.0) ts))) (clock_keys d shapes t.0) (all_is ts (each_left Known firsts (names_sampled t.0) h)) (t.1 (each_right Known firsts (names_sampled t.0) h))

  pub clock_there : (t : ClockTerm) → Is t
  clock_there = ind-ClockTerm Is (λ x y from. subst (λ z. Is (roll-ClockTerm z)) from (λ h.
      subst A (sym (fold-roll-ClockTerm (List Key) (R.clock_step d shapes) (tops y))) (layer y (subst (Each Known) (fold-roll-ClockTerm (List ℕ) sampled_step (tops y)) h))))
