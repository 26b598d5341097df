use Rattle.std.proofs.Common.{◌≡◌, ◌≢◌, ℕ, zero, suc, ◌+◌, ◌<◌, ◌≤◌, List, [], ◌∷◌, ◌++◌, Option, Some, None, ◌⊎◌, inl, inr, length, get_or, set, take, drop, refl, ap, sym, ◌∙◌, subst, arith, add-one}
use Rattle.std.specs.List.{slice_get, AllZip}
use Rattle.std.specs.Option.{is_some}
use Rattle.std.specs.Prelude.{true, false}
use Rattle.std.proofs.Math.Seq.{take-suc, take-append_seam}
use Rattle.std.proofs.Math.Nat.{eq-or-lt_of_le}
use Rattle.std.proofs.Math.ListN.{get_or-append}
use Rattle.std.proofs.lemmas.Option.{slice_get_within, get_or_from_slice_get}
use Rattle.std.proofs.lemmas.Bool.Decides.{eqb_tells}
use Rattle.term_unify.specs.Terms.{total}

-- a list that grew at its end still has what it had
pub got_front : {X : Type 0} (xs ys : List X) (i : ℕ) (x : X) → slice_get xs i ≡ Some x → slice_get (xs ++ ys) i ≡ Some x
got_front [] ys i x e = absurd (cc)
got_front (z ∷ xs) ys zero x e = e
got_front (z ∷ xs) ys (suc i) x e = got_front xs ys i x e

-- what follows is found behind it
pub got_back : {X : Type 0} (xs ys : List X) (n : ℕ) → slice_get (xs ++ ys) (length xs + n) ≡ slice_get ys n
got_back [] ys n = ap (slice_get ys) (omega arith)
got_back (z ∷ xs) ys n = let e : suc (length xs) + n ≡ suc (length xs + n) = omega arith in ap (slice_get (z ∷ (xs ++ ys))) e ∙ got_back xs ys n

pub got_next : {X : Type 0} (xs : List X) (x : X) → slice_get (xs ++ x ∷ []) (length xs) ≡ Some x
got_next [] x = refl
got_next (z ∷ xs) x = got_next xs x

-- one item more: an item is an earlier one or the new one
pub got_cases : {X : Type 0} (xs : List X) (y : X) (i : ℕ) (x : X) → slice_get (xs ++ y ∷ []) i ≡ Some x → (slice_get xs i ≡ Some x) ⊎ ((i ≡ length xs) × (x ≡ y))
got_cases [] y zero x e = let d : x ≡ y = cc in inr (refl, d)
got_cases [] y (suc i) x e = absurd (cc)
got_cases (z ∷ xs) y zero x e = inl e
got_cases (z ∷ xs) y (suc i) x e = elim (got_cases xs y i x e) [ inl a ↦ inl a | inr b ↦ inr (ap suc b.0, b.1) ]

pub got_front_back : {X : Type 0} (xs ys : List X) (i : ℕ) (x : X) → i < length xs → slice_get (xs ++ ys) i ≡ Some x → slice_get xs i ≡ Some x
got_front_back [] ys i x h e = absurd (omega arith)
got_front_back (z ∷ xs) ys zero x h e = e
got_front_back (z ∷ xs) ys (suc i) x h e = let k : i < length xs = omega arith in got_front_back xs ys i x k e

pub less_or_same : (j i : ℕ) → j < i + 1 → (j < i) ⊎ (j ≡ i)
less_or_same j i h = let k : j ≤ i = omega arith in elim (eq-or-lt_of_le k) [ inl e ↦ inr e | inr l ↦ inl l ]

pub same_or_not : (a b : ℕ) → (a ≡ b) ⊎ (a ≢ b)
same_or_not a b = elim (eqb_tells a b) [ inl t ↦ inl t.1 | inr f ↦ inr f.1 ]

pub got_some : {X : Type 0} (xs : List X) (i : ℕ) → i < length xs → (x : X) × (slice_get xs i ≡ Some x)
got_some [] i h = absurd (omega arith)
got_some (z ∷ xs) zero h = (z, refl)
got_some (z ∷ xs) (suc i) h = let k : i < length xs = omega arith in got_some xs i k

pub same_item : {X : Type 0} (xs : List X) (i : ℕ) (x y : X) → slice_get xs i ≡ Some x → slice_get xs i ≡ Some y → x ≡ y
same_item xs i x y a b = cc

pub take_more : {X : Type 0} (xs : List X) (i : ℕ) (x : X) → slice_get xs i ≡ Some x → take (i + 1) xs ≡ take i xs ++ x ∷ []
take_more xs i x e =
    let h = slice_get_within xs i x e in
    ap (λ n. take n xs) (add-one i) ∙ take-suc xs i x h ∙ ap (λ z. take i xs ++ z ∷ []) (get_or_from_slice_get xs i x x e)

pub got_take : {X : Type 0} (xs : List X) (n i : ℕ) (x : X) → slice_get (take n xs) i ≡ Some x → (i < n) × (slice_get xs i ≡ Some x)
got_take [] zero i x e = absurd (cc)
got_take [] (suc n) i x e = absurd (cc)
got_take (z ∷ xs) zero i x e = absurd (cc)
got_take (z ∷ xs) (suc n) zero x e = (omega arith, e)
got_take (z ∷ xs) (suc n) (suc i) x e = let r = got_take xs n i x e in (omega (arith, r.0), r.1)

pub got_in_take : {X : Type 0} (xs : List X) (n i : ℕ) (x : X) → i < n → slice_get xs i ≡ Some x → slice_get (take n xs) i ≡ Some x
got_in_take xs zero i x h e = absurd (omega arith)
got_in_take [] (suc n) i x h e = absurd (cc)
got_in_take (z ∷ xs) (suc n) zero x h e = e
got_in_take (z ∷ xs) (suc n) (suc i) x h e = let k : i < n = omega arith in got_in_take xs n i x k e

pub total-append : {X : Type 0} (f : X → ℕ) (xs ys : List X) → total f (xs ++ ys) ≡ total f xs + total f ys
total-append f [] ys = omega arith
total-append f (x ∷ xs) ys = omega (arith, total-append f xs ys)

pub total_at : {X : Type 0} (f : X → ℕ) (xs : List X) (i : ℕ) (x : X) → slice_get xs i ≡ Some x → f x ≤ total f xs
total_at f [] i x e = absurd (cc)
total_at f (y ∷ xs) zero x e = let d : y ≡ x = cc in rw d (omega arith)
total_at f (y ∷ xs) (suc i) x e = omega (arith, total_at f xs i x e)

pub total-drop : {X : Type 0} (f : X → ℕ) (xs : List X) (i : ℕ) (x : X) → slice_get xs i ≡ Some x → total f (drop i xs) ≡ f x + total f (drop (i + 1) xs)
total-drop f [] i x e = absurd (cc)
total-drop f (y ∷ xs) zero x e = let d : y ≡ x = cc in rw d refl
total-drop f (y ∷ xs) (suc i) x e = let s : suc i + 1 ≡ suc (i + 1) = omega arith in rw s (total-drop f xs i x e)

pub total_drop-append : {X : Type 0} (f : X → ℕ) (xs ys : List X) (i : ℕ) → i ≤ length xs → total f (drop i (xs ++ ys)) ≡ total f (drop i xs) + total f ys
total_drop-append f xs ys zero h = total-append f xs ys
total_drop-append f [] ys (suc i) h = absurd (omega arith)
total_drop-append f (x ∷ xs) ys (suc i) h = let k : i ≤ length xs = omega arith in total_drop-append f xs ys i k

-- two lists with the same items
pub same_list : {X : Type 0} (xs ys : List X) → length xs ≡ length ys → ((i : ℕ) (x y : X) → slice_get xs i ≡ Some x → slice_get ys i ≡ Some y → x ≡ y) → xs ≡ ys
same_list [] [] n h = refl
same_list [] (y ∷ ys) n h = absurd (omega arith)
same_list (x ∷ xs) [] n h = absurd (omega arith)
same_list (x ∷ xs) (y ∷ ys) n h =
    let m : length xs ≡ length ys = omega arith in
    let e = h 0 x y refl refl in
    let r = same_list xs ys m (λ i a b p q. h (suc i) a b p q) in
    λ i. e i ∷ r i

pub AllZip_then : {X Y : Type 0} (P Q : X → Y → Type 0) → ((x : X) (y : Y) → P x y → Q x y) → (xs : List X) (ys : List Y) → AllZip P xs ys → AllZip Q xs ys
AllZip_then P Q h [] [] z = z
AllZip_then P Q h [] (y ∷ ys) z = z
AllZip_then P Q h (x ∷ xs) [] z = z
AllZip_then P Q h (x ∷ xs) (y ∷ ys) z = (h x y z.0, AllZip_then P Q h xs ys z.1)

pub AllZip_push : {X Y : Type 0} (P : X → Y → Type 0) (xs : List X) (ys : List Y) (x : X) (y : Y) → AllZip P xs ys → P x y → AllZip P (xs ++ x ∷ []) (ys ++ y ∷ [])
AllZip_push P [] [] x y z p = (p, tt)
AllZip_push P [] (w ∷ ys) x y z p = absurd z
AllZip_push P (v ∷ xs) [] x y z p = absurd z
AllZip_push P (v ∷ xs) (w ∷ ys) x y z p = (z.0, AllZip_push P xs ys x y z.1 p)

-- what holds of each number so far holds with one number more
pub each_more : (P : ℕ → ℕ → Type 0) (xs ys : List ℕ) (x n : ℕ) → length xs ≡ n → ys ≡ xs ++ x ∷ [] → ((i : ℕ) → i < n → P i (get_or xs i 0)) → P n x
    → (i : ℕ) → i < n + 1 → P i (get_or ys i 0)
each_more P xs ys x n many more was now i below =
    elim (less_or_same i n below) [
      | inl lt ↦
          let h : i < length xs = omega (arith, many) in
          subst (P i) (sym (ap (λ z. get_or z i 0) more ∙ get_or-append xs (x ∷ []) 0 i h)) (was i lt)
      | inr eq ↦
          let last : get_or ys n 0 ≡ x = ap (λ z. get_or z n 0) more ∙ ap (λ k. get_or (xs ++ x ∷ []) k 0) (sym many) ∙ get_or_from_slice_get (xs ++ x ∷ []) (length xs) x 0 (got_next xs x) in
          subst (λ k. P k (get_or ys k 0)) (sym eq) (subst (P n) (sym last) now)
    ]

pub empty : {X : Type 0} (xs : List X) → length xs ≡ 0 → xs ≡ []
empty [] e = refl
empty (x ∷ xs) e = absurd (omega arith)

pub take_front : {X : Type 0} (xs ys : List X) (n : ℕ) → n ≡ length xs → take n (xs ++ ys) ≡ xs
take_front xs ys n e = ap (λ k. take k (xs ++ ys)) e ∙ take-append_seam xs ys

pub got_set_other : {X : Type 0} (xs : List X) (i j : ℕ) (y : X) → j ≢ i → slice_get (set xs i y) j ≡ slice_get xs j
got_set_other [] i j y apart = refl
got_set_other (x ∷ xs) zero zero y apart = absurd (apart refl)
got_set_other (x ∷ xs) zero (suc j) y apart = refl
got_set_other (x ∷ xs) (suc i) zero y apart = refl
got_set_other (x ∷ xs) (suc i) (suc j) y apart = got_set_other xs i j y (λ e. apart (ap suc e))

pub got_set_here : {X : Type 0} (xs : List X) (i : ℕ) (y : X) → i < length xs → slice_get (set xs i y) i ≡ Some y
got_set_here [] i y h = absurd (omega arith)
got_set_here (x ∷ xs) zero y h = refl
got_set_here (x ∷ xs) (suc i) y h = let k : i < length xs = omega arith in got_set_here xs i y k

pub set_back : {X : Type 0} (xs : List X) (i : ℕ) (y z : X) → slice_get xs i ≡ Some z → set (set xs i y) i z ≡ xs
set_back [] i y z e = refl
set_back (x ∷ xs) zero y z e = let d : z ≡ x = cc in ap (λ v. v ∷ xs) d
set_back (x ∷ xs) (suc i) y z e = ap (λ v. x ∷ v) (set_back xs i y z e)

pub some_of : {X : Type 0} (o : Option X) → is_some o ≡ true → (x : X) × (o ≡ Some x)
some_of None e = absurd (cc)
some_of (Some x) e = (x, refl)

pub none_of : {X : Type 0} (o : Option X) → is_some o ≡ false → o ≡ None
none_of None e = refl
none_of (Some x) e = absurd (cc)
