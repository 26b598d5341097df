-- Lists of demands as they grow.
use Rattle.std.specs.Prelude.{◌≡◌, refl, ℕ, suc, ◌+◌, ◌-◌, ◌<◌, List, [], ◌∷◌, ◌++◌, replicate, length, slice_get, OnOk, MatchOption, IfSome, ◌≤◌, Bool, true, false, not, Option, Some, None, is_some}
use Rattle.std.proofs.Common.{ap, sym, ◌∙◌, arith, get_or, Bor, Result, Ok, Err}
use Rattle.std.proofs.lemmas.Option.{slice_get_past, slice_get_read}
use Rattle.std.specs.List.{HoldsAt}
use Rattle.std.specs.Option.{option_copied}
use Rattle.ls_terms.specs.declared.types.TypeTerm.{TypeTerm}
use Rattle.ls_terms.specs.declared.types.TypeTerm.TheVariants as t
use Rattle.type_rules.specs.Expressions.{vars_from, none_of}

grouped : {A : Type 0} (xs ys zs : List A) → (xs ++ ys) ++ zs ≡ xs ++ (ys ++ zs)
grouped [] ys zs = refl
grouped (x ∷ xs) ys zs = ap (λ z. x ∷ z) (grouped xs ys zs)

-- after one part another
pub then_more : {A X E : Type 0} (r : Result X E) (out out' out'' xs ys whole : List A) → out' ≡ out ++ xs → OnOk r (out'' ≡ out' ++ ys) → whole ≡ xs ++ ys → OnOk r (out'' ≡ out ++ whole)
then_more (Ok x) out out' out'' xs ys whole a c is = c ∙ ap (λ z. z ++ ys) a ∙ grouped out xs ys ∙ ap (λ z. out ++ z) (sym is)
then_more (Err x) out out' out'' xs ys whole a c is = tt

-- the whole in other words
pub in_words : {A X E : Type 0} (r : Result X E) (out out' xs whole : List A) → OnOk r (out' ≡ out ++ xs) → whole ≡ xs → OnOk r (out' ≡ out ++ whole)
in_words (Ok x) out out' xs whole a is = a ∙ ap (λ z. out ++ z) (sym is)
in_words (Err x) out out' xs whole a is = tt

pub both_parts : {A : Type 0} (out out' out'' xs ys : List A) → out' ≡ out ++ xs → out'' ≡ out' ++ ys → out'' ≡ out ++ (xs ++ ys)
both_parts out out' out'' xs ys a c = c ∙ ap (λ z. z ++ ys) a ∙ grouped out xs ys

-- one more turn of a loop
pub more_part : {A : Type 0} (out out' xs rest rest' whole : List A) → out' ≡ out ++ xs → rest ≡ xs ++ rest' → out ++ rest ≡ whole → out' ++ rest' ≡ whole
more_part out out' xs rest rest' whole a is before = ap (λ z. z ++ rest') a ∙ grouped out xs rest' ∙ ap (λ z. out ++ z) (sym is) ∙ before

-- one more of equal items
pub repeat_turn : {A : Type 0} (x : A) (k count : ℕ) (list list' whole : List A) → k < count → list' ≡ list ++ x ∷ [] → list ++ replicate (count - k) x ≡ whole → list' ++ replicate (count - (k + 1)) x ≡ whole
repeat_turn x k count list list' whole below now before =
    let e : count - k ≡ suc (count - (k + 1)) = omega (arith, below) in
    more_part list list' (x ∷ []) (replicate (count - k) x) (replicate (count - (k + 1)) x) whole now (ap (λ n. replicate n x) e) before

-- one more variable
pub vars_turn : (k count : ℕ) (list list' whole : List TypeTerm) → k < count → list' ≡ list ++ t.Var k ∷ [] → list ++ vars_from k (count - k) ≡ whole → list' ++ vars_from (k + 1) (count - (k + 1)) ≡ whole
vars_turn k count list list' whole below now before =
    let e : count - k ≡ suc (count - (k + 1)) = omega (arith, below) in
    let f : suc k ≡ k + 1 = omega arith in
    more_part list list' (t.Var k ∷ []) (vars_from k (count - k)) (vars_from (k + 1) (count - (k + 1))) whole now (ap (vars_from k) e ∙ ap (λ n. t.Var k ∷ vars_from n (count - (k + 1))) f) before

-- whether there is none
pub none_told : {A : Type 0} (o : Option A) (b : Bool) → is_some o ≡ not b → b ≡ none_of o
none_told None true e = refl
none_told None false e = absurd (cc)
none_told (Some x) true e = absurd (cc)
none_told (Some x) false e = refl

-- what is found at a place of a slice
pub looked_up : {A : Type 0} (r : Option (Bor A)) (xs : List A) (k : ℕ) → MatchOption r (length xs ≤ k) (λ x. (k < length xs) × HoldsAt (λ y. x.now ≡ y) xs k) → IfSome r (λ x. x.now ≡ get_or xs k x.now)
    → option_copied r ≡ slice_get xs k
looked_up None xs k past here = sym (slice_get_past xs k past)
looked_up (Some x) xs k within here = sym (slice_get_read xs (length xs) k x.now refl within.0 here)
