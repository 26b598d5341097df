-- The signature that the marks give is that of the definition.
use Rattle.std.specs.Prelude.{◌≡◌, refl, ℕ, zero, suc, ◌+◌, ◌<◌, ◌≤◌, ◌⊎◌, ◌&&◌, ◌||◌, not, nat_lt, Bool, true, false, List, [], ◌∷◌, length, Some, None, if◌then◌else◌}
use Rattle.std.proofs.Common.{ap, sym, ◌∙◌, subst, arith, inl, inr}
use Rattle.digraph.specs.Graph.{first, Same, Ways, Reached, reads}
use Rattle.digraph.specs.Marks.{marked}
use Rattle.digraph.proofs.Marks.{none_in, in_cons}
use Rattle.ls_sig.specs.declared.sigs.InitSig.{InitSig}
use Rattle.ls_places.specs.Search.{nth}
use Rattle.ls_places.specs.declared.definition.Definition.{Definition}
use Rattle.init_rules.specs.Slots as slots
use Rattle.init_rules.specs.Slots.{Source, always, from, of_param, FlowsInto}
use Rattle.init_rules.specs.Signatures.{FlowsWrong, FlowsOut}
use Rattle.init_rules.specs.Flow.{system}
use Rattle.init_rules.specs.Init.{Initialised, IsSignature, May, Own, Reaches}
use Rattle.init_rules.proofs.Body.{initialised_by_flow, may_by_flow, own_by_flow, reaches_by_flow}
use Rattle.init_rules.specs.Nodes.{Counts, counts, rows, whole_node, Standing}
use Rattle.init_rules.specs.Searches.{Marks, may_bit, may_bits, param_marked, reach_bit, reach_bits, signature, SearchesDecide}
use Rattle.init_rules.proofs.Reached.{back_always, back_param, out_meant, out_way, param_is, wrong_meant, wrong_way}

module _ (d : Definition) (sigs : List InitSig) (st : Standing d) (wrong : List Bool) (marks : Marks (rows d sigs) 1 wrong) where
  abbrev n : Counts
  n = counts d

  abbrev g : List (List ℕ)
  g = rows d sigs

  abbrev S : slots.System
  S = system d sigs

  only : (s v : ℕ) → Reached (reads g) (s ∷ []) v → Ways (reads g) s v
  only s v r = elim (in_cons r.0 s [] r.1) [ inl e ↦ subst (λ z. Ways (reads g) z v) e r.2 | inr a ↦ absurd (none_in a) ]

  from_one : (s v : ℕ) → Ways (reads g) s v → Reached (reads g) (s ∷ []) v
  from_one s v w = (s, first [], w)

  wrong_always : marked wrong 0 ≡ true → FlowsWrong S always
  wrong_always e = back_always d sigs S.zeros 0 (wrong_meant d sigs st 0 (only 1 0 ((marks 0).0 e))) refl

  always_wrong : FlowsWrong S always → marked wrong 0 ≡ true
  always_wrong f = (marks 0).1 (from_one 1 0 (wrong_way d sigs st always f))

  wrong_param : (i : ℕ) → i < n.params → marked wrong (3 + i) ≡ true → FlowsWrong S (from (of_param i))
  wrong_param i l e = back_param d sigs S.zeros i (3 + i) l (wrong_meant d sigs st (3 + i) (only 1 (3 + i) ((marks (3 + i)).0 e))) refl

  param_wrong : (i : ℕ) → i < n.params → FlowsWrong S (from (of_param i)) → marked wrong (3 + i) ≡ true
  param_wrong i l f = (marks (3 + i)).1 (from_one 1 (3 + i) (subst (λ z. Ways (reads g) 1 z) (param_is d sigs i l) (wrong_way d sigs st (from (of_param i)) f)))

  -- a definition that is not initialised
  pub not_initialised : marked wrong 0 ≡ true → Initialised d sigs → ⊥
  not_initialised e i = (initialised_by_flow d sigs).0 i (wrong_always e)

  true_false : true ≡ false → ⊥
  true_false e = absurd (cc e)

  module _ (fine : marked wrong 0 ≡ false) (out : List Bool) (ends : Marks g (whole_node n st.last) out) where
    never_wrong : FlowsWrong S always → ⊥
    never_wrong f = true_false (sym (always_wrong f) ∙ fine)

    pub initialised : Initialised d sigs
    initialised = (initialised_by_flow d sigs).1 never_wrong

    out_always : marked out 0 ≡ true → FlowsOut S always
    out_always e = back_always d sigs S.result 0 (out_meant d sigs st 0 (only (whole_node n st.last) 0 ((ends 0).0 e))) refl

    always_out : FlowsOut S always → marked out 0 ≡ true
    always_out f = (ends 0).1 (from_one (whole_node n st.last) 0 (out_way d sigs st always f))

    out_param : (i : ℕ) → i < n.params → marked out (3 + i) ≡ true → FlowsOut S (from (of_param i))
    out_param i l e = back_param d sigs S.result i (3 + i) l (out_meant d sigs st (3 + i) (only (whole_node n st.last) (3 + i) ((ends (3 + i)).0 e))) refl

    param_out : (i : ℕ) → i < n.params → FlowsOut S (from (of_param i)) → marked out (3 + i) ≡ true
    param_out i l f = (ends (3 + i)).1 (from_one (whole_node n st.last) (3 + i)
        (subst (λ z. Ways (reads g) (whole_node n st.last) z) (param_is d sigs i l) (out_way d sigs st (from (of_param i)) f)))

    own_is : Same (marked out 0 ≡ true) (Own d sigs)
    own_is = let s = own_by_flow d sigs initialised in (λ e. s.1 (out_always e), λ o. always_out (s.0 o))

    -- ---- the bits of a parameter

    not_true : (t : Bool) → not t ≡ true → t ≡ true → ⊥
    not_true true e f = absurd (cc e)
    not_true false e f = absurd (cc f)

    by_not : (t : Bool) → (t ≡ true → ⊥) → not t ≡ true
    by_not true f = absurd (f refl)
    by_not false f = refl

    and_both : (a c : Bool) → (a && c) ≡ true → (a ≡ true) × (c ≡ true)
    and_both true c e = (refl, e)
    and_both false c e = absurd (cc e)

    both_and : (a c : Bool) → a ≡ true → c ≡ true → (a && c) ≡ true
    both_and true c e f = f
    both_and false c e f = absurd (cc e)

    or_one : (a c : Bool) → (a || c) ≡ true → (a ≡ true) ⊎ (c ≡ true)
    or_one true c e = inl refl
    or_one false c e = inr e

    one_or : (a c : Bool) → (a ≡ true) ⊎ (c ≡ true) → (a || c) ≡ true
    one_or true c h = refl
    one_or false c (inl e) = absurd (cc e)
    one_or false c (inr e) = e

    if_then : (t a : Bool) → t ≡ true → (if t then a else false) ≡ a
    if_then true a e = refl
    if_then false a e = absurd (cc e)

    less : (i m : ℕ) → i < m → nat_lt i m ≡ true
    less i m l = grind (arith, l)

    mark_is : (all : List Bool) (i : ℕ) → i < n.params → param_marked n all i ≡ marked all (3 + i)
    mark_is all i l = if_then (nat_lt i n.params) (marked all (3 + i)) (less i n.params l)

    may_is : (i : ℕ) → i < n.params → (t : Bool) → Same (may_bit n wrong t i ≡ true) ((t ≡ true) × May d sigs i)
    may_is i l t = (
      λ e. let b = and_both t (not (param_marked n wrong i)) e in
          (b.0, (may_by_flow d sigs i).1 (never_wrong, λ f. not_true (param_marked n wrong i) b.1 (mark_is wrong i l ∙ param_wrong i l f))),
      λ m. both_and t (not (param_marked n wrong i)) m.0
          (by_not (param_marked n wrong i) (λ e. ((may_by_flow d sigs i).0 m.1).1 (wrong_param i l (sym (mark_is wrong i l) ∙ e)))),
    )

    reach_is : (i : ℕ) → i < n.params → (t : Bool) → Same (reach_bit n wrong out t i ≡ true) ((t ≡ true) × Reaches d sigs i)
    reach_is i l t = (
      λ e. let b = and_both (may_bit n wrong t i) (marked out 0 || param_marked n out i) e in
          let m = (may_is i l t).0 b.0 in (
            m.0,
            (reaches_by_flow d sigs i).1 (
              m.1,
              elim (or_one (marked out 0) (param_marked n out i) b.1) [
                | inl a ↦ inl (out_always a)
                | inr a ↦ inr (out_param i l (sym (mark_is out i l) ∙ a))
              ],
            ),
          ),
      λ m. let r = (reaches_by_flow d sigs i).0 m.1 in
          both_and (may_bit n wrong t i) (marked out 0 || param_marked n out i) ((may_is i l t).1 (m.0, r.0))
          (one_or (marked out 0) (param_marked n out i) (elim r.1 [ inl a ↦ inl (always_out a) | inr a ↦ inr (mark_is out i l ∙ param_out i l a) ])),
    )

    -- ---- the lists

    long_may : (ts : List Bool) (k : ℕ) → length (may_bits n wrong ts k) ≡ length ts
    long_may [] k = refl
    long_may (t ∷ ts) k = ap suc (long_may ts (suc k))

    long_reach : (ts : List Bool) (k : ℕ) → length (reach_bits n wrong out ts k) ≡ length ts
    long_reach [] k = refl
    long_reach (t ∷ ts) k = ap suc (long_reach ts (suc k))

    of_some : (x : Bool) → Some x ≡ Some true → x ≡ true
    of_some true e = refl
    of_some false e = absurd (cc e)

    to_some : (x : Bool) → x ≡ true → Some x ≡ Some true
    to_some true e = refl
    to_some false e = absurd (cc e)

    through : (x t : Bool) (P : Type 0) → Same (x ≡ true) ((t ≡ true) × P) → Same (Some x ≡ Some true) ((Some t ≡ Some true) × P)
    through x t P s = (
      λ e. let r = s.0 (of_some x e) in (to_some t r.0, r.1),
      λ r. to_some x (s.1 (of_some t r.0, r.1)),
    )

    none_there : (P : Type 0) → Same (None ≡ Some true) ((None ≡ Some true) × P)
    none_there P = (λ e. absurd (cc e), λ r. r.0)

    may_at : (ts : List Bool) (k i : ℕ) → k + length ts ≤ n.params → Same (nth (may_bits n wrong ts k) i ≡ Some true) ((nth ts i ≡ Some true) × May d sigs (k + i))
    may_at [] k i l = none_there (May d sigs (k + i))
    may_at (t ∷ ts) k zero l = through (may_bit n wrong t k) t (May d sigs (k + 0))
        (subst (λ z. Same (may_bit n wrong t k ≡ true) ((t ≡ true) × May d sigs z)) (omega arith) (may_is k (omega (arith, l)) t))
    may_at (t ∷ ts) k (suc i) l = subst (λ z. Same (nth (may_bits n wrong ts (suc k)) i ≡ Some true) ((nth ts i ≡ Some true) × May d sigs z)) (omega arith) (may_at ts (suc k) i (omega (arith, l)))

    reach_at : (ts : List Bool) (k i : ℕ) → k + length ts ≤ n.params → Same (nth (reach_bits n wrong out ts k) i ≡ Some true) ((nth ts i ≡ Some true) × Reaches d sigs (k + i))
    reach_at [] k i l = none_there (Reaches d sigs (k + i))
    reach_at (t ∷ ts) k zero l = through (reach_bit n wrong out t k) t (Reaches d sigs (k + 0))
        (subst (λ z. Same (reach_bit n wrong out t k ≡ true) ((t ≡ true) × Reaches d sigs z)) (omega arith) (reach_is k (omega (arith, l)) t))
    reach_at (t ∷ ts) k (suc i) l = subst (λ z. Same (nth (reach_bits n wrong out ts (suc k)) i ≡ Some true) ((nth ts i ≡ Some true) × Reaches d sigs z)) (omega arith) (reach_at ts (suc k) i (omega (arith, l)))

    pub signed : (ts : List Bool) → length ts ≡ n.params → IsSignature d sigs ts (signature n wrong out ts)
    signed ts e = record {
      mays = long_may ts 0;
      reach = long_reach ts 0;
      may = λ i. subst (λ z. Same (nth (may_bits n wrong ts 0) i ≡ Some true) ((nth ts i ≡ Some true) × May d sigs z)) (omega arith) (may_at ts 0 i (omega (arith, e)));
      reaches = λ i. subst (λ z. Same (nth (reach_bits n wrong out ts 0) i ≡ Some true) ((nth ts i ≡ Some true) × Reaches d sigs z)) (omega arith) (reach_at ts 0 i (omega (arith, e)));
      own = own_is;
    }

pub searches_decide : SearchesDecide
searches_decide d sigs known wrong st long marks = (
  not_initialised d sigs st wrong marks,
  λ fine out ends. (initialised d sigs st wrong marks fine out ends, signed d sigs st wrong marks fine out ends known long),
)
