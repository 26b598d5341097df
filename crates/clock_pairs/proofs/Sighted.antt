-- The variable in sight is the first of those that the outermost arms bind.
use Rattle.std.specs.Prelude.{◌≡◌, refl, ℕ, zero, suc, ◌<◌, ◌≤◌, ◌==◌, ◌&&◌, min, Bool, true, false, List, [], ◌∷◌, length, take, Option, Some, None, if◌then◌else◌}
use Rattle.std.proofs.Common.{ap, ap₂, sym, ◌∙◌, arith, inl, inr}
use Rattle.std.proofs.lemmas.Bool.{eqb-true, eq-eqb, cases_lt}
use Rattle.ls_places.specs.Places.{InnerArm, place_of, same_arms}
use Rattle.ls_places.specs.declared.places.Variable.{Variable}
use Rattle.clock_pairs.specs.Sight.{earlier, last_of}
use Rattle.clock_rules.specs.Rules.{innermost}
use Rattle.ls_places.specs.Search.{signal_in, starts_with}

both_true : (a c : Bool) → (a && c) ≡ true → (a ≡ true) × (c ≡ true)
both_true true true e = (refl, refl)
both_true true false e = absurd (cc)
both_true false c e = absurd (cc)

and_true : (a c : Bool) → a ≡ true → c ≡ true → (a && c) ≡ true
and_true a c p q = ap₂ (λ x y. x && y) p q

turned : (a c : ℕ) → (a == c) ≡ true → (c == a) ≡ true
turned a c e = eq-eqb c a (sym (eqb-true a c e))

starts_same : (p l : List InnerArm) → starts_with p l ≡ true → (length l ≤ length p) × (same_arms l (take (length l) p) ≡ true)
starts_same p [] e = (omega arith, refl)
starts_same [] (a ∷ q) e = absurd (cc)
starts_same (c ∷ p) (a ∷ q) e =
    let h = both_true (c.0 == a.0 && c.1 == a.1) (starts_with p q) e in
    let i = both_true (c.0 == a.0) (c.1 == a.1) h.0 in
    let r = starts_same p q h.1 in
    let l = r.0 in
    (omega (arith, l), and_true (a.0 == c.0) _ (turned c.0 a.0 i.0) (and_true (a.1 == c.1) _ (turned c.1 a.1 i.1) r.1))

same_starts : (p l : List InnerArm) (n : ℕ) → same_arms l (take n p) ≡ true → starts_with p l ≡ true
same_starts p [] n e = refl
same_starts [] (a ∷ q) zero e = absurd (cc)
same_starts [] (a ∷ q) (suc n) e = absurd (cc)
same_starts (c ∷ p) (a ∷ q) zero e = absurd (cc)
same_starts (c ∷ p) (a ∷ q) (suc n) e =
    let h = both_true (a.0 == c.0) (a.1 == c.1 && same_arms q (take n p)) e in
    let i = both_true (a.1 == c.1) (same_arms q (take n p)) h.1 in
    and_true (c.0 == a.0 && c.1 == a.1) _ (and_true (c.0 == a.0) _ (turned a.0 c.0 h.0) (turned a.1 c.1 i.0)) (same_starts p q n i.1)

-- ---- lower bounds

abbrev AtLeast : ℕ → Option ℕ → Type 0
AtLeast k None = Unit {0}
AtLeast k (Some i) = k ≤ i

earlier_low : (k : ℕ) (a c : Option ℕ) → AtLeast k a → AtLeast k c → AtLeast k (earlier a c)
earlier_low k (Some a) (Some c) p q = omega (arith, p, q)
earlier_low k (Some a) None p q = p
earlier_low k None (Some c) p q = q
earlier_low k None None p q = tt

earlier_left : (k : ℕ) (c : Option ℕ) → AtLeast k c → earlier (Some k) c ≡ Some k
earlier_left k (Some c) p = let e : min k c ≡ k = omega (arith, p) in ap Some e
earlier_left k None p = refl

earlier_right : (k : ℕ) (a : Option ℕ) → AtLeast k a → earlier a (Some k) ≡ Some k
earlier_right k (Some a) p = let e : min a k ≡ k = omega (arith, p) in ap Some e
earlier_right k None p = refl

low_if : (c : Bool) (k : ℕ) (o : Option ℕ) → AtLeast k o → AtLeast k (if c then Some k else o)
low_if true k o p = omega arith
low_if false k o p = p

low_more : (k : ℕ) (o : Option ℕ) → AtLeast (suc k) o → AtLeast k o
low_more k None p = tt
low_more k (Some i) p = omega (arith, p)

place_low : (x : ℕ) (l : List InnerArm) (vs : List Variable) (k : ℕ) → AtLeast k (place_of x l vs k)
place_low x l [] k = tt
place_low x l (v ∷ vs) k = low_if (v.name == x && same_arms v.list l) k (place_of x l vs (suc k)) (low_more k (place_of x l vs (suc k)) (place_low x l vs (suc k)))

module _ (x : ℕ) (here : List InnerArm) where
  -- the first of the variables that the first so many of the outermost arms bind
  abbrev pub best : ℕ → List Variable → ℕ → Option ℕ
  best zero vs k = None
  best (suc n) vs k = earlier (best n vs k) (place_of x (take n here) vs k)

  best_low : (n : ℕ) (vs : List Variable) (k : ℕ) → AtLeast k (best n vs k)
  best_low zero vs k = tt
  best_low (suc n) vs k = earlier_low k (best n vs k) (place_of x (take n here) vs k) (best_low n vs k) (place_low x (take n here) vs k)

  best_has : (n m : ℕ) (vs : List Variable) (k : ℕ) → m < n → place_of x (take m here) vs k ≡ Some k → best n vs k ≡ Some k
  best_has zero m vs k l e = absurd (omega (arith, l))
  best_has (suc n) m vs k l e = elim (cases_lt m n) [
    | inl less ↦ ap (λ z. earlier z (place_of x (take n here) vs k)) (best_has n m vs k less e) ∙ earlier_left k _ (place_low x (take n here) vs k)
    | inr more ↦
        let same : m ≡ n = omega (arith, l, more) in
        ap (λ z. earlier (best n vs k) (place_of x (take z here) vs k)) (sym same) ∙ ap (earlier (best n vs k)) e ∙ earlier_right k _ (best_low n vs k)
  ]

  best_same : (n : ℕ) (vs ws : List Variable) (k j : ℕ) → ((m : ℕ) → place_of x (take m here) vs k ≡ place_of x (take m here) ws j) → best n vs k ≡ best n ws j
  best_same zero vs ws k j e = refl
  best_same (suc n) vs ws k j e = ap₂ earlier (best_same n vs ws k j e) (e n)

  best_none : (n k : ℕ) → best n [] k ≡ None
  best_none zero k = refl
  best_none (suc n) k = ap (λ z. earlier z None) (best_none n k)

  passed : (v : Variable) (vs : List Variable) (k : ℕ) → ((m : ℕ) → (v.name == x && same_arms v.list (take m here)) ≡ true → ⊥) → (m : ℕ) → place_of x (take m here) (v ∷ vs) k ≡ place_of x (take m here) vs (suc k)
  passed v vs k none m = go (v.name == x && same_arms v.list (take m here)) (none m)
    where
      go : (c : Bool) → (c ≡ true → ⊥) → (if c then Some k else place_of x (take m here) vs (suc k)) ≡ place_of x (take m here) vs (suc k)
      go true n = absurd (n refl)
      go false n = refl

  pub sight_is : (vs : List Variable) (k : ℕ) → best (suc (length here)) vs k ≡ signal_in x here vs k
  sight_is [] k = best_none (suc (length here)) k
  sight_is (v ∷ vs) k = go (sight_is vs (suc k)) (v.name == x && starts_with here v.list) refl
    where
      go : best (suc (length here)) vs (suc k) ≡ signal_in x here vs (suc k) → (c : Bool) → (v.name == x && starts_with here v.list) ≡ c → best (suc (length here)) (v ∷ vs) k ≡ (if c then Some k else signal_in x here vs (suc k))
      go more true e =
          let h = both_true (v.name == x) (starts_with here v.list) e in
          let r = starts_same here v.list h.1 in
          let l = r.0 in
          let c = and_true (v.name == x) (same_arms v.list (take (length v.list) here)) h.0 r.1 in
          best_has (suc (length here)) (length v.list) (v ∷ vs) k (omega (arith, l)) (ap (λ z. if z then Some k else place_of x (take (length v.list) here) vs (suc k)) c)
      go more false e =
          best_same (suc (length here)) (v ∷ vs) vs k (suc k)
          (passed v vs k (λ m c.
          let h = both_true (v.name == x) (same_arms v.list (take m here)) c in
          let d = and_true (v.name == x) (starts_with here v.list) h.0 (same_starts here v.list m h.1) in
          absurd (cc)))
          ∙ more

-- ---- the innermost arm

pub last_is : (p : List InnerArm) → last_of None p ≡ innermost p
last_is [] = refl
last_is (a ∷ []) = refl
last_is (a ∷ b ∷ p) = go p b
  where
    go : (q : List InnerArm) (c : InnerArm) → last_of (Some c) q ≡ innermost (c ∷ q)
    go [] c = refl
    go (d ∷ q) c = go q d
