-- One more definition of a file is judged.
use Rattle.std.specs.Prelude.{◌≡◌, refl, ℕ, ◌≤◌, List, [], ◌∷◌, ◌++◌, Option, Some}
use Rattle.std.proofs.Common.{ap, sym, subst}
use Rattle.ls_terms.specs.declared.types.TypeTerm.{TypeTerm}
use Rattle.ls_terms.specs.Types.{apply, size}
use Rattle.ls_sig.specs.declared.binder.TypeNote.{TypeNote}
use Rattle.ls_sig.specs.declared.binder.Use.{Use}
use Rattle.ls_sig.specs.declared.sigs.Sig.{Sig}
use Rattle.type_rules.specs.declared.demand.Demand.{Demand}
use Rattle.type_rules.specs.Demands.{Unify, pairs, solved, AreData}
use Rattle.type_rules.specs.Definitions.{Definition, variables}
use Rattle.type_rules.specs.Principal.{asks_of, AreFunctions}
use Rattle.type_rules.proofs.Principal.{principal, none_small, solved_small}
use Rattle.type_rules.specs.Files.{LetOf, placed, annotation, Small, Typed, ObeysIn, Judged, signature}

ends : {X : Type 0} (xs : List X) (y : X) (ys : List X) → (xs ++ y ∷ []) ++ ys ≡ xs ++ y ∷ ys
ends [] y ys = refl
ends (x ∷ xs) y ys = ap (λ zs. x ∷ zs) (ends xs y ys)

empty : {X : Type 0} (xs : List X) → xs ++ [] ≡ xs
empty [] = refl
empty (x ∷ xs) = ap (λ zs. x ∷ zs) (empty xs)

module _ (case_type : ℕ → Option TypeTerm) (limit : ℕ) where
  abbrev annotated_let : List Sig → LetOf Use → (ℕ → TypeTerm) → LetOf TypeNote
  annotated_let sigs d f = record { line = d.line; node = d.node; name = d.name; def = annotation case_type sigs d.def f }

  abbrev signed : List Sig → LetOf Use → (ℕ → TypeTerm) → Sig
  signed sigs d f = signature d.node d.name (annotation case_type sigs d.def f)

  -- a definition that is typed after those judged is judged with them
  pub judged_more : (sigs : List Sig) (ds : List (LetOf Use)) (as' : List (LetOf TypeNote)) (ss : List Sig) (d : LetOf Use) (f : ℕ → TypeTerm) → Judged case_type limit sigs ds as' ss
      → Typed case_type limit (sigs ++ ss) d.def f
      → Judged case_type limit sigs (ds ++ d ∷ []) (as' ++ annotated_let (sigs ++ ss) d f ∷ []) (ss ++ signed (sigs ++ ss) d f ∷ [])
  judged_more sigs [] [] [] d f j ty =
      subst (λ z. Judged case_type limit sigs (d ∷ []) (annotated_let z d f ∷ []) (signed z d f ∷ [])) (sym (empty sigs))
      ((f, subst (λ z. Typed case_type limit z d.def f) (empty sigs) ty, refl), refl, tt)
  judged_more sigs [] [] (s ∷ ss) d f j ty = absurd j
  judged_more sigs [] (a ∷ as') ss d f j ty = absurd j
  judged_more sigs (e ∷ ds) [] ss d f j ty = absurd j
  judged_more sigs (e ∷ ds) (a ∷ as') [] d f j ty = absurd j
  judged_more sigs (e ∷ ds) (a ∷ as') (s ∷ ss) d f j ty =
      let p = ends sigs s ss in (
        j.0,
        j.1,
        subst (λ z. Judged case_type limit (sigs ++ s ∷ []) (ds ++ d ∷ []) (as' ++ annotated_let z d f ∷ []) (ss ++ signed z d f ∷ [])) p
            (judged_more (sigs ++ s ∷ []) ds as' ss d f j.2 (subst (λ z. Typed case_type limit z d.def f) (sym p) ty)),
      )

  module _ (sigs : List Sig) (d : Definition Use) where
    abbrev asks : List (Demand ℕ)
    asks = asks_of sigs case_type (variables sigs case_type d) (placed case_type sigs d)

    -- what the body does for one definition
    module _ (s : ℕ → Option TypeTerm) (some : 1 ≤ limit) (unifies : Unify s (pairs asks)) (general : (by : ℕ → Option TypeTerm) → Unify by (pairs asks) → (u : TypeTerm) → apply by (apply s u) ≡ apply by u)
        (few : (x : ℕ) (u : TypeTerm) → s x ≡ Some u → size u ≤ limit) where
      pub typed : AreData asks s → AreFunctions sigs case_type (variables sigs case_type d) (placed case_type sigs d) → Typed case_type limit sigs d (solved asks s)
      typed known functions = (
        solved_small sigs case_type (variables sigs case_type d) (placed case_type sigs d) limit s some few,
        principal sigs case_type (variables sigs case_type d) (placed case_type sigs d) s unifies general known functions,
      )

    pub ill_by_clash : 1 ≤ limit → ((by : ℕ → Option TypeTerm) → Unify by (pairs asks) → ((x : ℕ) (u : TypeTerm) → by x ≡ Some u → size u ≤ limit) → ⊥)
        → (f : ℕ → TypeTerm) → ObeysIn case_type sigs d f → Small case_type limit f → ⊥
    ill_by_clash some clash f o small = none_small sigs case_type (variables sigs case_type d) (placed case_type sigs d) limit some clash f o small
