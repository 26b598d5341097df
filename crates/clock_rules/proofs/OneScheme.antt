-- Principal annotations of one definition make one scheme; so a file is judged in one way.
use Rattle.std.specs.Prelude.{◌≡◌, ℕ, List, [], ◌∷◌, ◌++◌, map, Option, ◌⊎◌, refl}
use Rattle.std.proofs.Common.{ap, ap₂, sym, ◌∙◌, subst, inl, inr}
use Rattle.std.proofs.lemmas.List.{map-append}
use Rattle.ls_ast.specs.declared.tree.BodyOf.{BodyOf}
use Rattle.ls_ast.specs.declared.tree.DefOf.{DefOf}
use Rattle.ls_ast.specs.declared.tree.DefOf.TheVariants as item
use Rattle.ls_ast.specs.declared.tree.Mark.{Mark}
use Rattle.ls_ast.specs.declared.tree.Pat.{Pat}
use Rattle.ls_terms.specs.declared.clocks.ClockTerm.{ClockTerm}
use Rattle.ls_terms.specs.Clocks.{apply}
use Rattle.ls_sig.specs.declared.binder.Note.{Note}
use Rattle.ls_sig.specs.declared.binder.TypeNote.{TypeNote}
use Rattle.ls_places.specs.Definitions.{note_clocks}
use Rattle.tree_notes.specs.Noted as T
use Rattle.clock_rules.specs.declared.scheme.ClockScheme.{ClockScheme}
use Rattle.clock_rules.specs.Files.{renumbered, clock_marks, scheme, Judged, FirstIllClocked}
use Rattle.clock_rules.specs.Fresh.{erase}
use Rattle.clock_rules.specs.Instances.{Subst, in_note}
use Rattle.clock_rules.specs.Judged.{IsInstance, IsPrincipal}
use Rattle.clock_rules.specs.Terms.{is_function}
use Rattle.clock_rules.proofs.Natural.{note_in}
use Rattle.clock_rules.proofs.Renaming.{renumbered_same}

clocks_in : (by : Subst) (ns : List Note) → note_clocks (map (in_note by) ns) ≡ map (apply by) (note_clocks ns)
clocks_in by [] = refl
clocks_in by (n ∷ ns) = ap (λ z. apply by n.ck ∷ z) (clocks_in by ns)

-- the clocks of a signature
abbrev all_clocks : List Note → BodyOf Note → List ClockTerm
all_clocks notes body = note_clocks notes ++ body.result.note.ck ∷ []

ends : (xs ys : List ClockTerm) (x y : ClockTerm) → xs ++ x ∷ [] ≡ ys ++ y ∷ [] → (xs ≡ ys) × (x ≡ y)
ends [] [] x y e = (refl, cc)
ends [] (y' ∷ []) x y e = absurd (cc)
ends [] (y' ∷ y'' ∷ ys) x y e = absurd (cc)
ends (x' ∷ []) [] x y e = absurd (cc)
ends (x' ∷ x'' ∷ xs) [] x y e = absurd (cc)
ends (x' ∷ xs) (y' ∷ ys) x y e =
    let f : xs ++ x ∷ [] ≡ ys ++ y ∷ [] = cc in
    let h : x' ≡ y' = cc in
    let q = ends xs ys x y f in (ap₂ (λ z zs. z ∷ zs) h q.0, q.1)

module _ (schemes : List ClockScheme) (cases : ℕ → Option ℕ) (params : List Pat) (marks : List Mark) where
  instance_clocks : (notes notes' : List Note) (body body' : BodyOf Note) (by : Subst) → map (in_note by) notes ≡ notes' → T.in_body Note Note (in_note by) body ≡ body'
      → map (apply by) (all_clocks notes body) ≡ all_clocks notes' body'
  instance_clocks notes notes' body body' by e f =
      map-append (apply by) (note_clocks notes) (body.result.note.ck ∷ [])
      ∙ ap₂ (λ x y. x ++ y ∷ []) (sym (clocks_in by notes) ∙ ap note_clocks e)
      (ap (λ (n : Note). n.ck) (sym (note_in Note Note (in_note by) (λ n. is_function n.ty) (λ n. is_function n.ty) (λ n. refl) body.result)) ∙ ap (λ (b : BodyOf Note). b.result.note.ck) f)

  module _ (types : List TypeNote) (tree : BodyOf TypeNote) where
    pub one_scheme : (notes notes' : List Note) (body body' : BodyOf Note)
        → IsPrincipal schemes cases params marks types tree notes body → IsPrincipal schemes cases params marks types tree notes' body'
        → scheme marks notes' body'.result.note.ck ≡ scheme marks notes body.result.note.ck
    one_scheme notes notes' body body' p q =
        let i = p.general notes' body' q.clocks q.annotates q.obeys in
        let j = q.general notes body p.clocks p.annotates p.obeys in
        let all : List ClockTerm = all_clocks notes body in
        let all' : List ClockTerm = all_clocks notes' body' in
        let there : map (apply i.by) all ≡ all' = instance_clocks notes notes' body body' i.by i.of_notes i.of_body in
        let back : map (apply j.by) all' ≡ all = instance_clocks notes' notes body' body j.by j.of_notes j.of_body in
        let same : map (renumbered all') all' ≡ map (renumbered all) all =
        (λ k. map (renumbered (sym there k)) (sym there k)) ∙ renumbered_same i.by j.by all (ap (map (apply j.by)) there ∙ back) in
        let both = ends (map (renumbered all') (note_clocks notes')) (map (renumbered all) (note_clocks notes)) (renumbered all' body'.result.note.ck) (renumbered all body.result.note.ck)
        (sym (map-append (renumbered all') (note_clocks notes') (body'.result.note.ck ∷ [])) ∙ same ∙ map-append (renumbered all) (note_clocks notes) (body.result.note.ck ∷ [])) in
        λ k. record { clocks = both.0 k; result = both.1 k; names = clock_marks marks 0 }

module _ (cases : ℕ → Option ℕ) where
  abbrev typed : List (DefOf Note) → List (DefOf TypeNote)
  typed = map {A = DefOf Note} {B = DefOf TypeNote} (λ d. T.in_definition Note TypeNote erase d)

  -- a file that is judged has no definition that is ill clocked
  pub not_both : (schemes : List ClockScheme) (defs : List (DefOf Note)) (at : ℕ) → Judged cases schemes defs → FirstIllClocked cases schemes (typed defs) at → ⊥
  not_both schemes [] at j f = f
  not_both schemes (item.Cases line name all ∷ rest) at j f = not_both schemes rest at j f
  not_both schemes (item.Let line node name params marks notes body ∷ rest) at j (inl f) =
      f.1 notes body j.0.annotates (record { clocks = j.0.clocks; obeys = j.0.obeys })
  not_both schemes (item.Let line node name params marks notes body ∷ rest) at j (inr f) =
      not_both (schemes ++ scheme marks notes body.result.note.ck ∷ []) rest at j.1
      (subst (λ z. FirstIllClocked cases (schemes ++ z ∷ []) (typed rest) at)
      (one_scheme schemes cases params marks (map erase notes) (T.in_body Note TypeNote erase body) notes f.0.notes body f.0.body j.0 f.0.principal) f.1)

  -- the first definition that is ill clocked stands at one line
  pub one_line : (schemes : List ClockScheme) (defs : List (DefOf TypeNote)) (a b : ℕ) → FirstIllClocked cases schemes defs a → FirstIllClocked cases schemes defs b → a ≡ b
  one_line schemes [] a b f h = absurd f
  one_line schemes (item.Cases line name all ∷ rest) a b f h = one_line schemes rest a b f h
  one_line schemes (item.Let line node name params marks types tree ∷ rest) a b (inl f) (inl h) = sym f.0 ∙ h.0
  one_line schemes (item.Let line node name params marks types tree ∷ rest) a b (inl f) (inr h) =
      let p = h.0.principal in absurd (f.1 h.0.notes h.0.body p.annotates (record { clocks = p.clocks; obeys = p.obeys }))
  one_line schemes (item.Let line node name params marks types tree ∷ rest) a b (inr f) (inl h) =
      let p = f.0.principal in absurd (h.1 f.0.notes f.0.body p.annotates (record { clocks = p.clocks; obeys = p.obeys }))
  one_line schemes (item.Let line node name params marks types tree ∷ rest) a b (inr f) (inr h) =
      one_line (schemes ++ scheme marks f.0.notes f.0.body.result.note.ck ∷ []) rest a b f.1
      (subst (λ z. FirstIllClocked cases (schemes ++ z ∷ []) rest b)
      (one_scheme schemes cases params marks types tree f.0.notes h.0.notes f.0.body h.0.body f.0.principal h.0.principal) h.1)
