-- A file is judged in one way.
use Rattle.std.specs.Prelude.{◌≡◌, refl, ℕ, suc, Bool, true, false, List, [], ◌∷◌, ◌++◌, length, Some}
use Rattle.std.proofs.Common.{ap₂, sym, ◌∙◌, subst, arith}
use Rattle.std.proofs.lemmas.List.{append_assoc, append-nil}
use Rattle.digraph.specs.Graph.{Same}
use Rattle.ls_sig.specs.declared.sigs.InitSig.{InitSig}
use Rattle.ls_places.specs.declared.definition.Definition.{Definition}
use Rattle.ls_places.specs.Search.{nth}
use Rattle.init_rules.specs.Init.{Initialised, IsSignature}
use Rattle.init_rules.specs.Files.{Let, Judged, JudgedWithMore, OneJudgement, NotBoth}

same_bit : (x y : Bool) → (x ≡ true → y ≡ true) → (y ≡ true → x ≡ true) → x ≡ y
same_bit true y f g = sym (f refl)
same_bit false true f g = g refl
same_bit false false f g = refl

of_some : (x : Bool) → Some x ≡ Some true → x ≡ true
of_some true e = refl
of_some false e = absurd (cc e)

to_some : (x : Bool) → x ≡ true → Some x ≡ Some true
to_some true e = refl
to_some false e = absurd (cc e)

same_item : (x y : Bool) → (Some x ≡ Some true → Some y ≡ Some true) → (Some y ≡ Some true → Some x ≡ Some true) → x ≡ y
same_item x y f g = same_bit x y (λ e. of_some y (f (to_some x e))) (λ e. of_some x (g (to_some y e)))

same_bits : (xs ys : List Bool) → length xs ≡ length ys → ((i : ℕ) → nth xs i ≡ Some true → nth ys i ≡ Some true)
    → ((i : ℕ) → nth ys i ≡ Some true → nth xs i ≡ Some true) → xs ≡ ys
same_bits [] [] e f g = refl
same_bits [] (y ∷ ys) e f g = absurd (omega (arith, e))
same_bits (x ∷ xs) [] e f g = absurd (omega (arith, e))
same_bits (x ∷ xs) (y ∷ ys) e f g = ap₂ (λ (b : Bool) bs. b ∷ bs) (same_item x y (f 0) (g 0)) (same_bits xs ys (omega (arith, e)) (λ i. f (suc i)) (λ i. g (suc i)))

-- two that say the same say one another
back : {P Q R : Type 0} → Same P R → Same Q R → P → Q
back f g p = g.1 (f.0 p)

same_record : (s t : InitSig) → s.may ≡ t.may → s.reaches ≡ t.reaches → s.own ≡ t.own → s ≡ t
same_record s t e f g = λ i. record { may = e i; reaches = f i; own = g i }

one_signature : (d : Definition) (sigs : List InitSig) (marks : List Bool) (s t : InitSig) → IsSignature d sigs marks s → IsSignature d sigs marks t → s ≡ t
one_signature d sigs marks s t p q = same_record s t
    (same_bits s.may t.may (p.mays ∙ sym q.mays) (λ i. back (p.may i) (q.may i)) (λ i. back (q.may i) (p.may i)))
    (same_bits s.reaches t.reaches (p.reach ∙ sym q.reach) (λ i. back (p.reaches i) (q.reaches i)) (λ i. back (q.reaches i) (p.reaches i)))
    (same_bit s.own t.own (back p.own q.own) (back q.own p.own))

pub one_judgement : OneJudgement
one_judgement sigs [] [] [] j k = refl
one_judgement sigs [] [] (t ∷ ts) j k = absurd k
one_judgement sigs [] (s ∷ ss) ts j k = absurd j
one_judgement sigs (d ∷ ds) [] ts j k = absurd j
one_judgement sigs (d ∷ ds) (s ∷ ss) [] j k = absurd k
one_judgement sigs (d ∷ ds) (s ∷ ss) (t ∷ ts) j k =
    let e = one_signature d.body sigs d.are_data s t j.0.1 k.0.1 in
    ap₂ (λ (x : InitSig) xs. x ∷ xs) e (one_judgement (sigs ++ s ∷ []) ds ss ts j.1 (subst (λ z. Judged (sigs ++ z ∷ []) ds ts) (sym e) k.1))

after_more : (sigs : List InitSig) (s : InitSig) (ss : List InitSig) → (sigs ++ s ∷ []) ++ ss ≡ sigs ++ s ∷ ss
after_more sigs s ss = append_assoc sigs (s ∷ []) ss

pub judged_with_more : JudgedWithMore
judged_with_more sigs [] [] d s j i g = (
  (subst (λ z. Initialised d.body z) (append-nil sigs) i, subst (λ z. IsSignature d.body z d.are_data s) (append-nil sigs) g),
  tt,
)
judged_with_more sigs [] (t ∷ ts) d s j i g = absurd j
judged_with_more sigs (x ∷ ds) [] d s j i g = absurd j
judged_with_more sigs (x ∷ ds) (t ∷ ts) d s j i g = (
  j.0,
  judged_with_more (sigs ++ t ∷ []) ds ts d s j.1 (subst (λ z. Initialised d.body z) (sym (after_more sigs t ts)) i)
      (subst (λ z. IsSignature d.body z d.are_data s) (sym (after_more sigs t ts)) g),
)

not_both : (sigs : List InitSig) (before : List Let) (d : Let) (after : List Let) (ss ts : List InitSig)
    → Judged sigs (before ++ d ∷ after) ss → Judged sigs before ts → (Initialised d.body (sigs ++ ts) → ⊥) → ⊥
not_both sigs [] d after [] ts j k n = j
not_both sigs [] d after (s ∷ ss) [] j k n = n (subst (λ z. Initialised d.body z) (sym (append-nil sigs)) j.0.0)
not_both sigs [] d after (s ∷ ss) (t ∷ ts) j k n = k
not_both sigs (x ∷ before) d after [] ts j k n = j
not_both sigs (x ∷ before) d after (s ∷ ss) [] j k n = k
not_both sigs (x ∷ before) d after (s ∷ ss) (t ∷ ts) j k n =
    let e = one_signature x.body sigs x.are_data s t j.0.1 k.0.1 in
    not_both (sigs ++ t ∷ []) before d after ss ts (subst (λ z. Judged (sigs ++ z ∷ []) (before ++ d ∷ after) ss) e j.1) k.1
    (λ i. n (subst (λ z. Initialised d.body z) (after_more sigs t ts) i))

pub never_both : NotBoth
never_both sigs ds ss line j u = not_both sigs u.0 u.1 u.2 ss u.3 (subst (λ z. Judged sigs z ss) u.4 j) u.5 u.7
