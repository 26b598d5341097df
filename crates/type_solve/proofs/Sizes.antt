-- The variables that some terms mention, and how many a demand needs.
use Rattle.std.specs.Prelude.{◌≡◌, refl, ℕ, suc, ◌+◌, ◌<◌, max, List, [], ◌∷◌, ◌++◌, map, length}
use Rattle.std.proofs.Common.{ap, ap₂, sym, ◌∙◌, arith, drop, get_or}
use Rattle.ls_base.proofs.Built.{rest}
use Rattle.ls_terms.specs.declared.types.Kind.{Kind}
use Rattle.ls_terms.specs.declared.types.TypeTerm.{TypeTerm, fold-roll-TypeTerm}
use Rattle.ls_terms.specs.declared.types.TypeTerm.TheOpen.{TypeTerm-F}
use Rattle.ls_terms.specs.declared.types.TypeTerm.TheVariants.{Arrow, rolls-Arrow}
use Rattle.type_rules.specs.Demands.{above, scheme_vars}
use Rattle.type_rules.specs.Schemes.{vars, vars_step, joined}

max_group : (a c d : ℕ) → max (max a c) d ≡ max a (max c d)
max_group a c d = omega arith

max_zero : (n : ℕ) → n ≡ max 0 n
max_zero n = omega arith

above_append : (xs ys : List ℕ) → above (xs ++ ys) ≡ max (above xs) (above ys)
above_append [] ys = max_zero (above ys)
above_append (x ∷ xs) ys = ap (max (suc x)) (above_append xs ys) ∙ sym (max_group (suc x) (above xs) (above ys))

-- one more term
pub term_turn : (all : List TypeTerm) (i : ℕ) (x : TypeTerm) (most a new whole : ℕ) → i < length all → get_or all i x ≡ x → a ≡ above (vars x) → new ≡ max a most
    → max most (above (joined (map vars (drop i all)))) ≡ whole → max new (above (joined (map vars (drop (i + 1) all)))) ≡ whole
term_turn all i x most a new whole below is one now before =
    let split : above (joined (map vars (drop i all))) ≡ max (above (vars x)) (above (joined (map vars (drop (i + 1) all)))) =
    ap (λ l. above (joined (map vars l))) (rest all i x below is) ∙ above_append (vars x) (joined (map vars (drop (i + 1) all))) in
    omega (arith, split, one, now, before)

-- one more scheme
pub fit_turn : (all : List (ℕ × TypeTerm)) (i : ℕ) (x : ℕ × TypeTerm) (most a new whole : ℕ) → i < length all → get_or all i x ≡ x → a ≡ above (vars x.1) → new ≡ max a most
    → max most (above (scheme_vars (drop i all))) ≡ whole → max new (above (scheme_vars (drop (i + 1) all))) ≡ whole
fit_turn all i x most a new whole below is one now before =
    let split : above (scheme_vars (drop i all)) ≡ max (above (vars x.1)) (above (scheme_vars (drop (i + 1) all))) =
    ap (λ l. above (scheme_vars l)) (rest all i x below is) ∙ above_append (vars x.1) (scheme_vars (drop (i + 1) all)) in
    omega (arith, split, one, now, before)

nothing : (xs : List ℕ) → xs ++ [] ≡ xs
nothing [] = refl
nothing (x ∷ xs) = ap (λ z. x ∷ z) (nothing xs)

grouped : (xs ys zs : List ℕ) → (xs ++ ys) ++ zs ≡ xs ++ (ys ++ zs)
grouped [] ys zs = refl
grouped (x ∷ xs) ys zs = ap (λ z. x ∷ z) (grouped xs ys zs)

joined_end : (xss : List (List ℕ)) (ys : List ℕ) → joined (xss ++ ys ∷ []) ≡ joined xss ++ ys
joined_end [] ys = nothing ys
joined_end (xs ∷ xss) ys = ap (λ z. xs ++ z) (joined_end xss ys) ∙ sym (grouped xs (joined xss) ys)

pub above_arrow : (term : TypeTerm) (k : Kind) (ts slice : List TypeTerm) (u u' : TypeTerm) (a c m : ℕ) → term ≡ Arrow k ts u → slice ≡ ts → u' ≡ u
    → a ≡ above (joined (map vars slice)) → c ≡ above (vars u') → m ≡ max a c → m ≡ above (vars term)
above_arrow term k ts slice u u' a c m is same same' one other most =
    most ∙ ap₂ max (one ∙ ap (λ l. above (joined (map vars l))) same) (other ∙ ap (λ z. above (vars z)) same')
    ∙ sym (above_append (joined (map vars ts)) (vars u))
    ∙ ap above (sym (joined_end (map vars ts) (vars u)))
    ∙ ap above (sym (ap vars (is ∙ sym (rolls-Arrow k ts u)) ∙ fold-roll-TypeTerm (List ℕ) vars_step (TypeTerm-F.Arrow k ts u)))
