-- What unification answers, in the words of the rules.
use Rattle.std.specs.Prelude.{◌≡◌, refl, ℕ, zero, suc, ◌<◌, ◌≤◌, ◌==◌, Bool, true, false, List, [], ◌∷◌, length, Option, Some, None, All, if◌then◌else◌}
use Rattle.std.proofs.Common.{ap, sym, ◌∙◌, subst, arith, inl, inr}
use Rattle.ls_terms.specs.declared.types.TypeTerm.{TypeTerm}
use Rattle.ls_terms.specs.declared.types.TypeTerm.TheVariants as t
use Rattle.ls_terms.specs.Types.{apply, size}
use Rattle.term_unify.specs.Terms.{first}
use Rattle.tree_notes.specs.Each.{Each}
use Rattle.type_solve.proofs.Data.{each_data, all_data}
use Rattle.type_solve.specs.Solution.{are_data, Solves, HasOther, IsUnsolvable}
use Rattle.type_rules.specs.declared.demand.Demand.{Demand}
use Rattle.type_rules.specs.Demands.{widths, pairs, pairs_from, Unify, AreData}
use Rattle.type_rules.specs.Laws.{IsGeneral, ListsSmall, NoneSmall}
use Rattle.type_rules.specs.Schemes.{is_data}

each_from : {X : Type 0} (P : X → Type 0) (xs : List X) → All P xs → Each P xs
each_from P [] a = tt
each_from P (x ∷ xs) a = (a 0 x (omega arith), each_from P xs (λ k d l. a (suc k) d (omega (arith, l))))

all_from : {X : Type 0} (P : X → Type 0) (xs : List X) → Each P xs → All P xs
all_from P [] e k d l = absurd (omega (arith, l))
all_from P (x ∷ xs) e zero d l = e.0
all_from P (x ∷ xs) e (suc k) d l = all_from P xs e.1 k d (omega (arith, l))

abbrev Same : (ℕ → Option TypeTerm) → TypeTerm × TypeTerm → Type 0
Same s p = apply s p.0 ≡ apply s p.1

abbrev General : (ℕ → Option TypeTerm) → List (TypeTerm × TypeTerm) → Type 0
General s ps = (by : ℕ → Option TypeTerm) → All (Same by) ps → (u : TypeTerm) → apply by (apply s u) ≡ apply by u

first_small : (limit : ℕ) (list : List (ℕ × TypeTerm)) → Each (λ e. size e.1 ≤ limit) list → ListsSmall limit (first list)
first_small limit [] a x u e = absurd (cc)
first_small limit (p ∷ ps) a x u e = go (first_small limit ps a.1 x u) (p.0 == x) e
  where
    go : (first ps x ≡ Some u → size u ≤ limit) → (c : Bool) → (if c then Some p.1 else first ps x) ≡ Some u → size u ≤ limit
    go more true d = let same : p.1 ≡ u = cc in subst (λ z. size z ≤ limit) same a.0
    go more false d = more d

is_pairs : (ds : List (Demand ℕ)) (own : ℕ) (ps : List (TypeTerm × TypeTerm)) → own ≡ widths ds → ps ≡ pairs_from own 0 ds → ps ≡ pairs ds
is_pairs ds own ps many is = is ∙ ap (λ n. pairs_from n 0 ds) many

pub solved_by : (ds : List (Demand ℕ)) (limit own : ℕ) (ps : List (TypeTerm × TypeTerm)) (list : List (ℕ × TypeTerm)) → own ≡ widths ds → ps ≡ pairs_from own 0 ds
    → All (Same (first list)) ps → General (first list) ps → All (λ e. size e.1 ≤ limit) list → are_data own (first list) ≡ true → Solves ds limit own (first list)
solved_by ds limit own ps list many is unifies general small known =
    let p = is_pairs ds own ps many is in
    record {
      many = many;
      unifies = subst (λ z. Unify (first list) z) p (each_from (Same (first list)) ps unifies);
      general = λ by u term. general by (all_from (Same by) ps (subst (λ z. Unify by z) (sym p) u)) term;
      few = first_small limit list (each_from (λ e. size e.1 ≤ limit) list small);
      known = λ x l. each_data own (first list) known x (subst (λ n. x < n) (sym many) l);
    }

pub other_by : (ds : List (Demand ℕ)) (limit own : ℕ) (ps : List (TypeTerm × TypeTerm)) (list : List (ℕ × TypeTerm)) → own ≡ widths ds → ps ≡ pairs_from own 0 ds
    → All (Same (first list)) ps → General (first list) ps → are_data own (first list) ≡ false → IsUnsolvable ds limit
other_by ds limit own ps list many is unifies general unknown =
    let p = is_pairs ds own ps many is in
    inr (
      first list,
      subst (λ z. Unify (first list) z) p (each_from (Same (first list)) ps unifies),
      (λ by u term. general by (all_from (Same by) ps (subst (λ z. Unify by z) (sym p) u)) term),
      (λ known. let e = all_data own (first list) (λ x l. known x (subst (λ n. x < n) many l)) in absurd (cc)),
    )

pub none_by : (ds : List (Demand ℕ)) (limit own : ℕ) (ps : List (TypeTerm × TypeTerm)) → own ≡ widths ds → ps ≡ pairs_from own 0 ds
    → ((by : ℕ → Option TypeTerm) → All (Same by) ps → ((x : ℕ) (u : TypeTerm) → by x ≡ Some u → size u ≤ limit) → ⊥) → IsUnsolvable ds limit
none_by ds limit own ps many is clash =
    let p = is_pairs ds own ps many is in
    inl (λ by u small. clash by (all_from (Same by) ps (subst (λ z. Unify by z) (sym p) u)) small)
