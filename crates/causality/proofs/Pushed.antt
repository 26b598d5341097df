-- One step of what is pushed in a loop.
use Rattle.std.specs.Prelude.{◌≡◌, refl, ℕ, zero, suc, ◌+◌, ◌-◌, ◌<◌, false, List, [], ◌∷◌, ◌++◌, map, length, Some, None, Result, Ok, Err, IfOk}
use Rattle.std.proofs.Common.{ap, sym, subst, ◌∙◌, arith, append_assoc, drop, get_or}
use Rattle.std.proofs.Math.ListN.{replicate}
use Rattle.ls_places.specs.Patterns.{joined}
use Rattle.ls_places.specs.Search.{count_up, nth}
use Rattle.place_tables.proofs.Lists.{counted, one_on}
use Rattle.causality.specs.Cycles.{blank}
use Rattle.causality.specs.Made.{node_of}
use Rattle.causality.specs.Nodes.{Counts, all_nodes, node_in}
use Rattle.causality.specs.declared.nodes.Kind.TheVariants as kind
use Rattle.causality.specs.declared.nodes.Node.{Node}
use Rattle.causality.specs.declared.nodes.Node.TheVariants as node

-- ---- answers

pub by_value : {A E : Type 0} (P : A → Type 0) (r : Result A E) (v : A) → P v → IfOk r (λ x. x ≡ v) → IfOk r P
by_value P (Ok x) v p e = subst P (sym e) p
by_value P (Err f) v p e = tt

pub then_ok : {A E : Type 0} (P Q : A → Type 0) (r : Result A E) → ((x : A) → P x → Q x) → IfOk r P → IfOk r Q
then_ok P Q (Ok x) f p = f x p
then_ok P Q (Err e) f p = tt

-- ---- lists

one_less : (n i : ℕ) → i < n → n - i ≡ suc (n - (i + 1))
one_less n i l = omega (arith, l)

one_more : (first i : ℕ) → suc (first + i) ≡ first + (i + 1)
one_more first i = omega arith

counted_from : (n first i : ℕ) → i < n → count_up (n - i) (first + i) ≡ (first + i) ∷ count_up (n - (i + 1)) (first + (i + 1))
counted_from n first i l = ap (λ z. count_up z (first + i)) (one_less n i l) ∙ ap (λ z. (first + i) ∷ count_up (n - (i + 1)) z) (one_more first i)

pub made_next : (f : ℕ → Node) (n first i : ℕ) (old new whole : List Node) → i < n → new ≡ old ++ f (first + i) ∷ [] → old ++ map f (count_up (n - i) (first + i)) ≡ whole
    → new ++ map f (count_up (n - (i + 1)) (first + (i + 1))) ≡ whole
made_next f n first i old new whole l e so_far =
    let rest = map f (count_up (n - (i + 1)) (first + (i + 1))) in
    ap (λ z. z ++ rest) e ∙ append_assoc old (f (first + i) ∷ []) rest ∙ ap (λ z. old ++ map f z) (sym (counted_from n first i l)) ∙ so_far

-- items by their numbers
pub listed_next : {A : Type 0} (f : ℕ → A) (n k : ℕ) (old new whole : List A) → k < n → new ≡ old ++ f k ∷ [] → old ++ map f (count_up (n - k) k) ≡ whole
    → new ++ map f (count_up (n - (k + 1)) (k + 1)) ≡ whole
listed_next f n k old new whole l e so_far =
    let rest = map f (count_up (n - (k + 1)) (k + 1)) in
    ap (λ z. z ++ rest) e ∙ append_assoc old (f k ∷ []) rest ∙ ap (λ z. old ++ map f z) (sym (counted n k l)) ∙ so_far

pub joined_next : {A : Type 0} (f : ℕ → List A) (n k : ℕ) (old new whole : List A) → k < n → new ≡ old ++ f k → old ++ joined (map f (count_up (n - k) k)) ≡ whole
    → new ++ joined (map f (count_up (n - (k + 1)) (k + 1))) ≡ whole
joined_next f n k old new whole l e so_far =
    let rest = joined (map f (count_up (n - (k + 1)) (k + 1))) in
    ap (λ z. z ++ rest) e ∙ append_assoc old (f k) rest ∙ ap (λ z. old ++ joined (map f z)) (sym (counted n k l)) ∙ so_far

-- items by their list
pub mapped_next : {A B : Type 0} (f : A → B) (all : List A) (i : ℕ) (x : A) (old new whole : List B) → i < length all → get_or all i x ≡ x → new ≡ old ++ f x ∷ []
    → old ++ map f (drop i all) ≡ whole → new ++ map f (drop (i + 1) all) ≡ whole
mapped_next f all i x old new whole l at e so_far =
    let rest = map f (drop (i + 1) all) in
    ap (λ z. z ++ rest) e ∙ append_assoc old (f x ∷ []) rest ∙ sym (ap (λ z. old ++ map f z) (one_on all i x l at)) ∙ so_far

pub nth_at : {A : Type 0} (all : List A) (k : ℕ) (x : A) → k < length all → get_or all k x ≡ x → nth all k ≡ Some x
nth_at [] k x l e = absurd (omega (arith, l))
nth_at (y ∷ ys) zero x l e = ap Some e
nth_at (y ∷ ys) (suc k) x l e = nth_at ys k x (omega (arith, l)) e

pub within : {A : Type 0} (all : List A) (k : ℕ) (x : A) → Some x ≡ nth all k → k < length all
within [] k x e = absurd (cc e)
within (y ∷ ys) zero x e = omega arith
within (y ∷ ys) (suc k) x e = let l = within ys k x e in omega (arith, l)

-- ---- nodes

pub node_none : (ns : List Node) (x : ℕ) → None ≡ nth ns x → node.Nothing ≡ node_in ns x
node_none [] x e = refl
node_none (n ∷ ns) zero e = absurd (cc e)
node_none (n ∷ ns) (suc x) e = node_none ns x e

pub node_some : (ns : List Node) (x : ℕ) (n : Node) → Some n ≡ nth ns x → n ≡ node_in ns x
node_some [] x n e = absurd (cc e)
node_some (m ∷ ns) zero n e = the_some n m e
  where
    the_some : (a b : Node) → Some a ≡ Some b → a ≡ b
    the_some a b e = cc e
node_some (m ∷ ns) (suc x) n e = node_some ns x n e

pub all_made : (n : Counts) (o0 o1 o2 o3 o4 o5 : List Node) (v p m r e : ℕ) → v ≡ n.vars → p ≡ n.params → m ≡ n.names → r ≡ n.resets → e ≡ n.exprs → o0 ≡ node.Nothing ∷ []
    → o1 ≡ o0 ++ map (node_of kind.Var) (count_up v 0) → o2 ≡ o1 ++ map (node_of kind.Start) (count_up v 0) → o3 ≡ o2 ++ map (node_of kind.Name) (count_up m p)
    → o4 ≡ o3 ++ map (node_of kind.Reset) (count_up r 0) → o5 ≡ o4 ++ map (node_of kind.Whole) (count_up e 0) → o5 ≡ all_nodes n
all_made n o0 o1 o2 o3 o4 o5 v p m r e ev ep em er ee e0 e1 e2 e3 e4 e5 =
    let a = map (node_of kind.Var) (count_up n.vars 0) in
    let b = map (node_of kind.Start) (count_up n.vars 0) in
    let c = map (node_of kind.Name) (count_up n.names n.params) in
    let d = map (node_of kind.Reset) (count_up n.resets 0) in
    let f = map (node_of kind.Whole) (count_up n.exprs 0) in
    let q1 : o1 ≡ node.Nothing ∷ a = e1 ∙ (λ i. e0 i ++ map (node_of kind.Var) (count_up (ev i) 0)) in
    let q2 : o2 ≡ (node.Nothing ∷ a) ++ b = e2 ∙ (λ i. q1 i ++ map (node_of kind.Start) (count_up (ev i) 0)) in
    let q3 : o3 ≡ ((node.Nothing ∷ a) ++ b) ++ c = e3 ∙ (λ i. q2 i ++ map (node_of kind.Name) (count_up (em i) (ep i))) in
    let q4 : o4 ≡ (((node.Nothing ∷ a) ++ b) ++ c) ++ d = e4 ∙ (λ i. q3 i ++ map (node_of kind.Reset) (count_up (er i) 0)) in
    e5 ∙ (λ i. q4 i ++ map (node_of kind.Whole) (count_up (ee i) 0))
    ∙ append_assoc (((node.Nothing ∷ a) ++ b) ++ c) d f ∙ append_assoc ((node.Nothing ∷ a) ++ b) c (d ++ f) ∙ append_assoc (node.Nothing ∷ a) b (c ++ (d ++ f))

pub blank_is : (n : ℕ) → replicate n false ≡ blank n
blank_is zero = refl
blank_is (suc n) = ap (λ z. false ∷ z) (blank_is n)
