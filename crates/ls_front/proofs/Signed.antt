-- The signatures of a file with its types.
use Rattle.std.specs.Prelude.{◌≡◌, ℕ, List, [], ◌∷◌, ◌++◌, Option}
use Rattle.std.proofs.Common.{refl, ap, sym, ◌∙◌, subst}
use Rattle.ls_ast.specs.declared.tree.DefOf.{DefOf}
use Rattle.ls_ast.specs.declared.tree.FileOf.{FileOf}
use Rattle.ls_sig.specs.Environment.{empty}
use Rattle.ls_sig.specs.declared.binder.TypeNote.{TypeNote}
use Rattle.ls_sig.specs.declared.binder.Use.{Use}
use Rattle.ls_sig.specs.declared.sigs.Sig.{Sig}
use Rattle.ls_terms.specs.declared.types.TypeTerm.{TypeTerm}
use Rattle.type_rules.specs.Constructors.{case_type}
use Rattle.type_rules.specs.Files.{LetOf, Judged, lets, in_place}
use Rattle.type_schemes.specs.Signatures.{signatures_of}
use Rattle.type_infer.specs.Files.{AreTyped}
use Rattle.accepted_rules.specs.Accepted.{type_limit, AreTypes}
use Rattle.ls_front.specs.Front.{signatures_of_file}

module _ (case_of : ℕ → Option TypeTerm) (limit : ℕ) where
  -- the annotated definitions are those in their places
  lets_there : (sigs : List Sig) (ds : List (DefOf Use)) (as' : List (LetOf TypeNote)) (ss : List Sig) → Judged case_of limit sigs (lets ds) as' ss → lets (in_place ds as') ≡ as'
  lets_there sigs [] [] [] j = refl
  lets_there sigs [] [] (s ∷ ss) j = absurd j
  lets_there sigs [] (a ∷ as') ss j = absurd j
  lets_there sigs (DefOf.Cases line name cases ∷ ds) as' ss j = lets_there sigs ds as' ss j
  lets_there sigs (DefOf.Let line node name params marks notes body ∷ ds) [] ss j = absurd j
  lets_there sigs (DefOf.Let line node name params marks notes body ∷ ds) (a ∷ as') [] j = absurd j
  lets_there sigs (DefOf.Let line node name params marks notes body ∷ ds) (a ∷ as') (s ∷ ss) j = ap (λ z. a ∷ z) (lets_there (sigs ++ s ∷ []) ds as' ss j.2)

  -- and their signatures are those of the judgement
  signed : (sigs : List Sig) (ds : List (LetOf Use)) (as' : List (LetOf TypeNote)) (ss : List Sig) → Judged case_of limit sigs ds as' ss → signatures_of as' ≡ ss
  signed sigs [] [] [] j = refl
  signed sigs [] [] (s ∷ ss) j = absurd j
  signed sigs [] (a ∷ as') ss j = absurd j
  signed sigs (d ∷ ds) [] ss j = absurd j
  signed sigs (d ∷ ds) (a ∷ as') [] j = absurd j
  signed sigs (d ∷ ds) (a ∷ as') (s ∷ ss) j = λ i. sym j.1 i ∷ signed (sigs ++ s ∷ []) ds as' ss j.2 i

pub are_types : (file : FileOf Use) (typed : FileOf TypeNote) → typed.names ≡ file.names
    → AreTyped (case_type empty file) type_limit [] file.defs typed.defs → AreTypes file typed (signatures_of_file typed)
are_types file typed same t =
    let sigs : signatures_of_file typed ≡ t.1 =
    ap (λ ds. signatures_of (lets ds)) t.3 ∙ ap signatures_of (lets_there (case_type empty file) type_limit [] file.defs t.0 t.1 t.2) ∙ signed (case_type empty file) type_limit [] (lets file.defs) t.0 t.1 t.2 in
    record {
      annotated = t.0;
      judged = subst (λ ss. Judged (case_type empty file) type_limit [] (lets file.defs) t.0 ss) (sym sigs) t.2;
      typed_as = λ i. record { defs = t.3 i; names = same i };
    }
