-- Keys in order of first appearance.
use Rattle.std.specs.Prelude.{◌≡◌, refl, ℕ, suc, ◌+◌, ◌==◌, ◌<◌, ◌||◌, Bool, true, false, nat_eq, List, [], ◌∷◌, ◌++◌, map, length, cond, Option, Some, None, option_map, unwrap_or, OnOk, if◌then◌else◌}
use Rattle.std.specs.List.{list_any, position_from}
use Rattle.std.proofs.Common.{ap, sym, ◌∙◌, arith, eq-eqb, eqb-true, drop, get_or, Result, Ok, Err}
use Rattle.std.proofs.lemmas.List.Sums.{fold-append}
use Rattle.indexmap.specs.IndexSet.{insert_key, insert_all}
use Rattle.ls_base.proofs.Built.{rest}
use Rattle.ls_ast.specs.declared.tree.DefOf.{DefOf}
use Rattle.ls_ast.specs.declared.tree.DefOf.TheVariants as d
use Rattle.ls_sig.specs.declared.binder.TypeNote.{TypeNote}
use Rattle.ls_sig.specs.declared.sigs.Sig.{Sig}
use Rattle.ls_terms.specs.declared.types.Kind.{Kind}
use Rattle.ls_terms.specs.declared.types.TypeTerm.{TypeTerm, roll-TypeTerm, fold-roll-TypeTerm}
use Rattle.ls_terms.specs.declared.types.TypeTerm.TheOpen.{TypeTerm-F}
use Rattle.ls_terms.specs.declared.types.TypeTerm.TheVariants as t
use Rattle.type_rules.proofs.Solving.{at_var}
use Rattle.type_schemes.specs.Signatures as spec
use Rattle.type_rules.specs.Bodies.{index_of}
use Rattle.type_rules.specs.Files.{contains, firsts_after, appearing, renumbered, lets}
use Rattle.type_rules.specs.Schemes.{joined, vars, vars_step}

turned : (a c : ℕ) → (a == c) ≡ (c == a)
turned a c = go (a == c) (c == a) refl refl
  where
    go : (p q : Bool) → (a == c) ≡ p → (c == a) ≡ q → p ≡ q
    go true true e f = refl
    go false false e f = refl
    go true false e f = absurd (let g : (c == a) ≡ true = eq-eqb c a (sym (eqb-true a c e)) in cc)
    go false true e f = absurd (let g : (a == c) ≡ true = eq-eqb a c (sym (eqb-true c a f)) in cc)

-- the same numbers are in both lists
abbrev Agree : List ℕ → List ℕ → Type 0
Agree seen ks = (x : ℕ) → contains x seen ≡ list_any (nat_eq x) ks

or_group : (a c e : Bool) → (a || (c || e)) ≡ ((a || c) || e)
or_group true c e = refl
or_group false c e = refl

or_false : (e : Bool) → (e || false) ≡ e
or_false true = refl
or_false false = refl

or_true : (e : Bool) → true ≡ (e || true)
or_true true = refl
or_true false = refl

any_end : (f : ℕ → Bool) (ks : List ℕ) (x : ℕ) → list_any f (ks ++ x ∷ []) ≡ (list_any f ks || f x)
any_end f [] x = or_false (f x)
any_end f (k ∷ ks) x = ap (λ z. f k || z) (any_end f ks x) ∙ or_group (f k) (list_any f ks) (f x)

agree_pick : (c d e : Bool) → d ≡ e → (if c then true else d) ≡ (e || c)
agree_pick true d e h = or_true e
agree_pick false d e h = h ∙ sym (or_false e)

agree_more : (seen ks : List ℕ) (x : ℕ) → Agree seen ks → Agree (x ∷ seen) (ks ++ x ∷ [])
agree_more seen ks x agree z =
    agree_pick (x == z) (contains z seen) (list_any (nat_eq z) ks) (agree z) ∙ ap (λ c. list_any (nat_eq z) ks || c) (turned x z) ∙ sym (any_end (nat_eq z) ks x)

nothing : (ks : List ℕ) → ks ≡ ks ++ []
nothing [] = refl
nothing (k ∷ ks) = ap (λ z. k ∷ z) (nothing ks)

grouped : (xs ys zs : List ℕ) → (xs ++ ys) ++ zs ≡ xs ++ (ys ++ zs)
grouped [] ys zs = refl
grouped (x ∷ xs) ys zs = ap (λ z. x ∷ z) (grouped xs ys zs)

firsts_pick : (c d : Bool) (x : ℕ) (xs seen ks : List ℕ) → d ≡ c → insert_all nat_eq ks xs ≡ ks ++ firsts_after seen xs
    → insert_all nat_eq (ks ++ x ∷ []) xs ≡ (ks ++ x ∷ []) ++ firsts_after (x ∷ seen) xs → insert_all nat_eq (if c then ks else ks ++ x ∷ []) xs ≡ ks ++ (if d then firsts_after seen xs else x ∷ firsts_after (x ∷ seen) xs)
firsts_pick true d x xs seen ks is there new = there ∙ ap (λ z. ks ++ (if z then firsts_after seen xs else x ∷ firsts_after (x ∷ seen) xs)) (sym is)
firsts_pick false d x xs seen ks is there new = new ∙ grouped ks (x ∷ []) (firsts_after (x ∷ seen) xs) ∙ ap (λ z. ks ++ (if z then firsts_after seen xs else x ∷ firsts_after (x ∷ seen) xs)) (sym is)

firsts_are : (xs seen ks : List ℕ) → Agree seen ks → insert_all nat_eq ks xs ≡ ks ++ firsts_after seen xs
firsts_are [] seen ks agree = nothing ks
firsts_are (x ∷ xs) seen ks agree =
    firsts_pick (list_any (nat_eq x) ks) (contains x seen) x xs seen ks (agree x) (firsts_are xs seen ks agree) (firsts_are xs (x ∷ seen) (ks ++ x ∷ []) (agree_more seen ks x agree))

joined_end : (xss : List (List ℕ)) (ys : List ℕ) → joined (xss ++ ys ∷ []) ≡ joined xss ++ ys
joined_end [] ys = sym (nothing ys)
joined_end (xs ∷ xss) ys = ap (λ z. xs ++ z) (joined_end xss ys) ∙ sym (grouped xs (joined xss) ys)

vars_end : (ts : List TypeTerm) (u : TypeTerm) → joined (map vars (ts ++ u ∷ [])) ≡ joined (map vars ts) ++ vars u
vars_end [] u = sym (nothing (vars u))
vars_end (t ∷ ts) u = ap (λ z. vars t ++ z) (vars_end ts u) ∙ sym (grouped (vars t) (joined (map vars ts)) (vars u))

-- the variables of parameters, and then those of a result
pub order_is : (ts : List TypeTerm) (u : TypeTerm) (start mid end : List ℕ) → start ≡ [] → mid ≡ insert_all nat_eq start (joined (map vars ts)) → end ≡ insert_all nat_eq mid (vars u)
    → end ≡ appearing (ts ++ u ∷ [])
order_is ts u start mid end is one two =
    two ∙ ap (λ z. insert_all nat_eq z (vars u)) (one ∙ ap (λ z. insert_all nat_eq z (joined (map vars ts))) is)
    ∙ sym (fold-append (insert_key nat_eq) [] (joined (map vars ts)) (vars u))
    ∙ ap (insert_all nat_eq []) (sym (vars_end ts u))
    ∙ firsts_are (joined (map vars (ts ++ u ∷ []))) [] [] (λ x. refl)

-- one more term
pub appear_turn : (all : List TypeTerm) (i : ℕ) (x : TypeTerm) (ks ks' whole : List ℕ) → i < length all → get_or all i x ≡ x → ks' ≡ insert_all nat_eq ks (vars x)
    → insert_all nat_eq ks (joined (map vars (drop i all))) ≡ whole → insert_all nat_eq ks' (joined (map vars (drop (i + 1) all))) ≡ whole
appear_turn all i x ks ks' whole below is now before =
    ap (λ z. insert_all nat_eq z (joined (map vars (drop (i + 1) all)))) now
    ∙ sym (fold-append (insert_key nat_eq) ks (vars x) (joined (map vars (drop (i + 1) all))))
    ∙ ap (λ l. insert_all nat_eq ks (joined (map vars l))) (sym (rest all i x below is))
    ∙ before

next_one : (k : ℕ) → suc k ≡ k + 1
next_one k = omega arith

index_pick : (c : Bool) (k : ℕ) (o p : Option ℕ) → o ≡ p → (if c then Some k else o) ≡ cond c (Some k) p
index_pick true k o p e = refl
index_pick false k o p e = e

-- the place of a key
pub index_is : (x : ℕ) (ks : List ℕ) (k : ℕ) → index_of x ks k ≡ position_from (nat_eq x) k ks
index_is x [] k = refl
index_is x (y ∷ ys) k =
    index_pick (y == x) k (index_of x ys (suc k)) (position_from (nat_eq x) (k + 1) ys) (index_is x ys (suc k) ∙ ap (λ j. position_from (nat_eq x) j ys) (next_one k))
    ∙ ap (λ c. cond c (Some k) (position_from (nat_eq x) (k + 1) ys)) (turned y x)

-- a variable that did not appear
pub number_none : (from x : ℕ) (keys : List ℕ) → None ≡ position_from (nat_eq x) 0 keys → t.Var x ≡ renumbered from keys (t.Var x)
number_none from x keys e =
    sym
    (at_var (λ y. option_map (λ k. t.Var (from + k)) (index_of y keys 0)) x
    ∙ ap (λ o. unwrap_or (option_map (λ k. t.Var (from + k)) o) (roll-TypeTerm (TypeTerm-F.Var x))) (index_is x keys 0 ∙ sym e)
    ∙ t.rolls-Var x)

-- one that did
pub number_some : (from x : ℕ) (keys : List ℕ) (at n : ℕ) → Some at ≡ position_from (nat_eq x) 0 keys → n ≡ from + at → t.Var n ≡ renumbered from keys (t.Var x)
number_some from x keys at n e now =
    ap t.Var now
    ∙ sym
    (at_var (λ y. option_map (λ k. t.Var (from + k)) (index_of y keys 0)) x
    ∙ ap (λ o. unwrap_or (option_map (λ k. t.Var (from + k)) o) (roll-TypeTerm (TypeTerm-F.Var x))) (index_is x keys 0 ∙ sym e))

arrow_is : (k : Kind) (ts : List TypeTerm) (u : TypeTerm) → vars (t.Arrow k ts u) ≡ joined (map vars ts) ++ vars u
arrow_is k ts u = ap vars (sym (t.rolls-Arrow k ts u)) ∙ fold-roll-TypeTerm (List ℕ) vars_step (TypeTerm-F.Arrow k ts u) ∙ joined_end (map vars ts) (vars u)

-- the variables of a function
pub arrow_vars : {X E : Type 0} (r : Result X E) (term : TypeTerm) (k : Kind) (ts slice : List TypeTerm) (u u' : TypeTerm) (ks ks' ks'' : List ℕ) → term ≡ t.Arrow k ts u → slice ≡ ts → u' ≡ u
    → ks' ≡ insert_all nat_eq ks (joined (map vars slice)) → OnOk r (ks'' ≡ insert_all nat_eq ks' (vars u')) → OnOk r (ks'' ≡ insert_all nat_eq ks (vars term))
arrow_vars (Ok x) term k ts slice u u' ks ks' ks'' is same same' one two =
    two
    ∙ (λ i. insert_all nat_eq (one i) (vars (same' i)))
    ∙ ap (λ z. insert_all nat_eq (insert_all nat_eq ks (joined (map vars z))) (vars u)) same
    ∙ sym (fold-append (insert_key nat_eq) ks (joined (map vars ts)) (vars u))
    ∙ ap (insert_all nat_eq ks) (sym (ap vars is ∙ arrow_is k ts u))
arrow_vars (Err x) term k ts slice u u' ks ks' ks'' is same same' one two = tt

list_group : {A : Type 0} (xs ys zs : List A) → (xs ++ ys) ++ zs ≡ xs ++ (ys ++ zs)
list_group [] ys zs = refl
list_group (x ∷ xs) ys zs = ap (λ z. x ∷ z) (list_group xs ys zs)

signatures_next : (e : DefOf TypeNote) (ds : List (DefOf TypeNote)) → spec.signatures_of (lets (e ∷ ds)) ≡ spec.signatures_of (lets (e ∷ [])) ++ spec.signatures_of (lets ds)
signatures_next (d.Cases line name cases) ds = refl
signatures_next (d.Let line node name params marks notes body) ds = refl

-- one more definition
pub signature_turn : (all : List (DefOf TypeNote)) (i : ℕ) (e : DefOf TypeNote) (list list' whole : List Sig) → i < length all → get_or all i e ≡ e → list' ≡ list ++ spec.signatures_of (lets (e ∷ []))
    → list ++ spec.signatures_of (lets (drop i all)) ≡ whole → list' ++ spec.signatures_of (lets (drop (i + 1) all)) ≡ whole
signature_turn all i e list list' whole below is now before =
    ap (λ z. z ++ spec.signatures_of (lets (drop (i + 1) all))) now
    ∙ list_group list (spec.signatures_of (lets (e ∷ []))) (spec.signatures_of (lets (drop (i + 1) all)))
    ∙ ap (λ z. list ++ z) (sym (ap (λ l. spec.signatures_of (lets l)) (rest all i e below is) ∙ signatures_next e (drop (i + 1) all)))
    ∙ before
