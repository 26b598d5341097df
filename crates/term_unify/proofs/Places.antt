use Rattle.std.proofs.Common.{◌≡◌, ◌≢◌, ℕ, suc, ◌+◌, false, List, [], ◌∷◌, ◌++◌, Option, Some, None, ◌⊎◌, inl, inr, length, refl, ap, sym, ◌∙◌, arith, Result, Ok, Err}
use Rattle.std.specs.Prelude.{◌==◌, if◌then◌else◌, OnOk, OnErr, is_err}
use Rattle.std.specs.List.{slice_get}
use Rattle.std.specs.Option.{option_map}
use Rattle.std.proofs.lemmas.Bool.Decides.{eqb_tells}
use Rattle.term_unify.specs.Terms.{first, place}

map_none : (o : Option ℕ) → option_map (λ n. n + 1) o ≡ None → o ≡ None
map_none None e = refl
map_none (Some x) e = absurd (cc)

map_some : (o : Option ℕ) (p : ℕ) → option_map (λ n. n + 1) o ≡ Some p → (q : ℕ) × (o ≡ Some q) × (p ≡ q + 1)
map_some None p e = absurd (cc)
map_some (Some x) p e = let d : p ≡ x + 1 = cc in (x, refl, d)

pub first_none : {T : Type 0} (list : List (ℕ × T)) (x : ℕ) → place list x ≡ None → first list x ≡ None
first_none [] x e = refl
first_none (d ∷ list) x e =
    elim (eqb_tells d.0 x) [
      | inl t ↦ let a : Some 0 ≡ None = sym (ap (λ b. if b then Some 0 else option_map (λ n. n + 1) (place list x)) t.0) ∙ e in absurd (cc)
      | inr f ↦
          ap (λ b. if b then Some d.1 else first list x) f.0
          ∙ first_none list x (map_none (place list x) (sym (ap (λ b. if b then Some 0 else option_map (λ n. n + 1) (place list x)) f.0) ∙ e))
    ]

pub first_some : {T : Type 0} (list : List (ℕ × T)) (x p : ℕ) → place list x ≡ Some p → (e : ℕ × T) × (slice_get list p ≡ Some e) × (first list x ≡ Some e.1)
first_some [] x p e = absurd (cc)
first_some (d ∷ list) x p e =
    elim (eqb_tells d.0 x) [
      | inl t ↦
          let a : Some 0 ≡ Some p = sym (ap (λ b. if b then Some 0 else option_map (λ n. n + 1) (place list x)) t.0) ∙ e in
          let b : p ≡ 0 = cc in
          (d, ap (slice_get (d ∷ list)) b, ap (λ b. if b then Some d.1 else first list x) t.0)
      | inr f ↦
          let q = map_some (place list x) p (sym (ap (λ b. if b then Some 0 else option_map (λ n. n + 1) (place list x)) f.0) ∙ e) in
          let r = first_some list x q.0 q.1 in
          let s : p ≡ suc q.0 = omega (arith, q.2) in
          (r.0, ap (slice_get (d ∷ list)) s ∙ r.1, ap (λ b. if b then Some d.1 else first list x) f.0 ∙ r.2)
    ]

pub place_other : {T : Type 0} (list : List (ℕ × T)) (y : ℕ) (v : T) (x : ℕ) → x ≢ y → place (list ++ (y, v) ∷ []) x ≡ place list x
place_other [] y v x apart = elim (eqb_tells y x) [ inl t ↦ absurd (apart (sym t.1)) | inr f ↦ ap (λ b. if b then Some 0 else None) f.0 ]
place_other (d ∷ list) y v x apart = ap (λ o. if d.0 == x then Some 0 else option_map (λ n. n + 1) o) (place_other list y v x apart)

-- a variable that has an entry
pub place_again : {T : Type 0} (list : List (ℕ × T)) (y p : ℕ) (v : T) (x : ℕ) → place list y ≡ Some p → place (list ++ (y, v) ∷ []) x ≡ place list x
place_again [] y p v x e = absurd (cc)
place_again (d ∷ list) y p v x e =
    elim (eqb_tells d.0 y) [
      | inl t ↦
          elim (eqb_tells d.0 x) [
            | inl u ↦ ap (λ b. if b then Some 0 else option_map (λ n. n + 1) (place (list ++ (y, v) ∷ []) x)) u.0 ∙ sym (ap (λ b. if b then Some 0 else option_map (λ n. n + 1) (place list x)) u.0)
            | inr f ↦ ap (λ o. if d.0 == x then Some 0 else option_map (λ n. n + 1) o) (place_other list y v x (λ q. f.1 (t.1 ∙ sym q)))
          ]
      | inr f ↦
          let q = map_some (place list y) p (sym (ap (λ b. if b then Some 0 else option_map (λ n. n + 1) (place list y)) f.0) ∙ e) in
          ap (λ o. if d.0 == x then Some 0 else option_map (λ n. n + 1) o) (place_again list y q.0 v x q.1)
    ]

pub place_new : {T : Type 0} (list : List (ℕ × T)) (y : ℕ) (v : T) → place list y ≡ None → place (list ++ (y, v) ∷ []) y ≡ Some (length list)
place_new [] y v e = elim (eqb_tells y y) [ inl t ↦ ap (λ b. if b then Some 0 else None) t.0 | inr f ↦ absurd (f.1 refl) ]
place_new (d ∷ list) y v e =
    elim (eqb_tells d.0 y) [
      | inl t ↦ let a : Some 0 ≡ None = sym (ap (λ b. if b then Some 0 else option_map (λ n. n + 1) (place list y)) t.0) ∙ e in absurd (cc)
      | inr f ↦
          let rest = map_none (place list y) (sym (ap (λ b. if b then Some 0 else option_map (λ n. n + 1) (place list y)) f.0) ∙ e) in
          let n : length list + 1 ≡ suc (length list) = omega arith in
          ap (λ b. if b then Some 0 else option_map (λ n. n + 1) (place (list ++ (y, v) ∷ []) y)) f.0 ∙ ap (option_map (λ n. n + 1)) (place_new list y v rest) ∙ ap Some n
    ]

pub pushed : {V E : Type 0} (r : Result V E) (P Q : Type 0) → OnOk r P → OnErr r Q → P ⊎ Q
pushed (Ok v) P Q p q = inl p
pushed (Err e) P Q p q = inr q

pub ok_of : {V E : Type 0} (r : Result V E) (P : Type 0) → OnOk r P → is_err r ≡ false → P
ok_of (Ok v) P p e = p
ok_of (Err x) P p e = absurd (cc)
