-- The searches in the graph of a body, and what they tell.
use Rattle.std.specs.Prelude.{◌≡◌, refl, ℕ, zero, suc, ◌+◌, ◌-◌, ◌<◌, Bool, true, false, List, [], ◌∷◌, ◌++◌, map, length, Some, None, nat_lt, if◌then◌else◌}
use Rattle.std.proofs.Common.{ap, sym, subst, ◌∙◌, arith, append_assoc, get_or}
use Rattle.digraph.specs.Marks.{marked}
use Rattle.ls_places.specs.Search.{count_up}
use Rattle.ls_places.specs.declared.definition.Definition.{Definition}
use Rattle.ls_sig.specs.declared.sigs.InitSig.{InitSig}
use Rattle.init_rules.specs.Nodes.{Standing, counts, empty_rows, rows, total, whole_node, whole_row, zero_row}
use Rattle.init_rules.specs.Searches.{AllBelow, Marks, signature}
use Rattle.init_rules.proofs.Below.{graph_is_there}
use Rattle.init_rules.proofs.Signed.{searches_decide}
use Rattle.init_check.specs.Judged.{Decided}
use Rattle.init_check.specs.Rows.{first_rows, initial_nodes, variable_nodes}

-- ---- the rows

one_more : (n : ℕ) → 1 + n ≡ suc n
one_more n = omega arith

pub first_are : (d : Definition) (sigs : List InitSig) → (([] ++ empty_rows 1) ++ zero_row d sigs ∷ []) ++ empty_rows (1 + length d.params) ≡ first_rows d sigs
first_are d sigs = ap (λ z. ([] ∷ zero_row d sigs ∷ []) ++ empty_rows z) (one_more (length d.params))

pub rows_are : (d : Definition) (sigs : List InitSig)
    → ((first_rows d sigs ++ map (variable_nodes d) (count_up (length d.places.vars) 0)) ++ map (initial_nodes d) d.places.vars) ++ map (whole_row d sigs) d.places.exprs ≡ rows d sigs
rows_are d sigs =
    let vs = map (variable_nodes d) (count_up (length d.places.vars) 0) in
    let is = map (initial_nodes d) d.places.vars in
    let ws = map (whole_row d sigs) d.places.exprs in
    append_assoc (first_rows d sigs ++ vs) is ws ∙ append_assoc (first_rows d sigs) vs (is ++ ws)

pub long : (d : Definition) (sigs : List InitSig) (g : List (List ℕ)) → g ≡ rows d sigs → length g ≡ total (counts d)
long d sigs g e = ap (λ (z : List (List ℕ)). length z) e ∙ (graph_is_there d sigs).many

pub below : (n m : ℕ) (row : List ℕ) → m ≡ n → AllBelow n row → AllBelow m row
below n m row e all = subst (λ z. AllBelow z row) (sym e) all

pub one_is_node : (d : Definition) → 1 < total (counts d)
one_is_node d = omega arith

by_bound : (k m v n : ℕ) (t : Bool) → nat_lt k m ≡ t → (k < m → v < n) → 2 < n → (if t then v else 2) < n
by_bound k m v n true e f l = f (grind (arith, e))
by_bound k m v n false e f l = l

pub whole_is_node : (d : Definition) (k x : ℕ) → x ≡ whole_node (counts d) k → x < total (counts d)
whole_is_node d k x e =
    let n = counts d in
    subst (λ z. z < total n) (sym e) (by_bound k n.exprs (3 + n.params + n.vars + n.vars + k) (total n) (nat_lt k n.exprs) refl (λ l. omega (arith, l)) (omega arith))

pub within : (d : Definition) (m : ℕ) (row slice : List ℕ) → m ≡ total (counts d) → slice ≡ row → AllBelow (total (counts d)) row → AllBelow m slice
within d m row slice e is all = subst (AllBelow m) (sym is) (below (total (counts d)) m row e all)

pub one_below : (v m : ℕ) → v < m → (k d : ℕ) → k < 1 → get_or (v ∷ []) k d < m
one_below v m l zero d k = l
one_below v m l (suc i) d k = absurd (omega (arith, k))

-- ---- the answers

pub uninitialised : (d : Definition) (sigs : List InitSig) (known wrong : List Bool) (g : List (List ℕ)) (st : Standing d) → length known ≡ length d.params → g ≡ rows d sigs
    → Marks g 1 wrong → marked wrong 0 ≡ true → Decided d sigs known None
uninitialised d sigs known wrong g st params e marks is = (searches_decide d sigs known wrong st params (subst (λ z. Marks z 1 wrong) e marks)).0 is

less_one : (n m : ℕ) → n ≡ suc m → n - 1 ≡ m
less_one n m e = omega (arith, e)

pub initialised : (d : Definition) (sigs : List InitSig) (known wrong out : List Bool) (g : List (List ℕ)) (s : InitSig) (start : ℕ) (st : Standing d) → length known ≡ length d.params → g ≡ rows d sigs
    → Marks g 1 wrong → marked wrong 0 ≡ false → start ≡ whole_node (counts d) (length d.places.exprs - 1) → Marks g start out → s ≡ signature (counts d) wrong out known
    → Decided d sigs known (Some s)
initialised d sigs known wrong out g s start st params e marks is at marks' sig =
    subst (λ z. Decided d sigs known (Some z)) (sym sig)
    ((searches_decide d sigs known wrong st params (subst (λ z. Marks z 1 wrong) e marks)).1 is out
    (subst (λ z. Marks z (whole_node (counts d) st.last) out) e (subst (λ z. Marks g z out) (at ∙ ap (whole_node (counts d)) (less_one (length d.places.exprs) st.last st.many)) marks')))
