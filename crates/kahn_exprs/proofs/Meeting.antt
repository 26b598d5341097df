-- The clocks of a signature, one by one.
use Rattle.std.specs.Prelude.{◌≡◌, refl, ℕ, zero, suc, ◌+◌, ◌<◌, Bool, List, [], ◌∷◌, ◌++◌, map, length, Option, Some, None, get_or, drop}
use Rattle.std.proofs.Common.{ap, sym, ◌∙◌, arith, subst}
use Rattle.ls_terms.specs.declared.clocks.ClockTerm.{ClockTerm}
use Rattle.kahn_cells.proofs.Binds.{one_on}
use Rattle.ls_places.specs.Search.{nth}
use Rattle.kahn_exprs.specs.declared.body.Body.{Body}
use Rattle.kahn_exprs.specs.Instance as own

-- what is looked up is the first of what remains
none_left : {A : Type 0} (all : List A) (j : ℕ) → None ≡ nth all j → drop j all ≡ []
none_left [] zero e = refl
none_left [] (suc j) e = refl
none_left (x ∷ xs) zero e = absurd (cc)
none_left (x ∷ xs) (suc j) e = none_left xs j e

one_left : {A : Type 0} (all : List A) (j : ℕ) (x : A) → Some x ≡ nth all j → drop j all ≡ x ∷ drop (suc j) all
one_left [] zero x e = absurd (cc)
one_left [] (suc j) x e = absurd (cc)
one_left (y ∷ ys) zero x e = cc
one_left (y ∷ ys) (suc j) x e = one_left ys j x e

one_more : (j : ℕ) → suc j ≡ j + 1
one_more j = omega arith

grouped : {A : Type 0} (xs ys zs : List A) → (xs ++ ys) ++ zs ≡ xs ++ (ys ++ zs)
grouped [] ys zs = refl
grouped (x ∷ xs) ys zs = ap (λ z. x ∷ z) (grouped xs ys zs)

no_more : {A : Type 0} (xs : List A) → xs ++ [] ≡ xs
no_more [] = refl
no_more (x ∷ xs) = ap (λ z. x ∷ z) (no_more xs)

none_of : (ms : List own.Pairs) → own.pairs_all ms [] ≡ []
none_of [] = refl
none_of (m ∷ ms) = refl

module _ (b : Body) where
  pub met_append : (xs ys : List (ℕ × ClockTerm)) → own.rows_met b (xs ++ ys) ≡ own.rows_met b xs ++ own.rows_met b ys
  met_append [] ys = refl
  met_append (x ∷ xs) ys = ap (λ z. own.row_met b x ∷ z) (met_append xs ys)

  -- where no clock is left to meet
  pub ended : (signature all : List ClockTerm) (i j : ℕ) (done whole : List (ℕ × List (Option Bool))) → j ≡ i → None ≡ nth all j
      → done ++ own.rows_met b (own.pairs_all (map own.pairs (drop i signature)) (drop i all)) ≡ whole → done ≡ whole
  ended signature all i j done whole same none e =
      sym (no_more done) ∙ ap (λ z. done ++ own.rows_met b z) (sym (none_of (map own.pairs (drop i signature))))
      ∙ ap (λ z. done ++ own.rows_met b (own.pairs_all (map own.pairs (drop i signature)) z)) (sym (none_left all i (subst (λ z. None ≡ nth all z) same none)))
      ∙ e

  pub met_one : (signature all : List ClockTerm) (i j : ℕ) (ck t : ClockTerm) (done new whole : List (ℕ × List (Option Bool))) → i < length signature → get_or signature i ck ≡ ck → j ≡ i
      → Some t ≡ nth all j → new ≡ done ++ own.rows_met b (own.pairs ck t)
      → done ++ own.rows_met b (own.pairs_all (map own.pairs (drop i signature)) (drop i all)) ≡ whole
      → new ++ own.rows_met b (own.pairs_all (map own.pairs (drop (i + 1) signature)) (drop (i + 1) all)) ≡ whole
  met_one signature all i j ck t done new whole below is same found next e =
      let rest = own.pairs_all (map own.pairs (drop (i + 1) signature)) (drop (i + 1) all) in
      ap (λ z. z ++ own.rows_met b rest) next
      ∙ grouped done (own.rows_met b (own.pairs ck t)) (own.rows_met b rest)
      ∙ ap (λ z. done ++ z) (sym (met_append (own.pairs ck t) rest))
      ∙ ap (λ z. done ++ own.rows_met b (own.pairs ck t ++ own.pairs_all (map own.pairs (drop (i + 1) signature)) (drop z all))) (sym (one_more i))
      ∙ ap (λ z. done ++ own.rows_met b (own.pairs_all (own.pairs ck ∷ map own.pairs (drop (i + 1) signature)) z)) (sym (one_left all i t (subst (λ z. Some t ≡ nth all z) same found)))
      ∙ ap (λ z. done ++ own.rows_met b (own.pairs_all (map own.pairs z) (drop i all))) (sym (one_on signature i ck below is))
      ∙ e
