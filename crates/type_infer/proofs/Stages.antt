-- The types of a file, one definition more.
use Rattle.std.specs.Prelude.{◌≡◌, refl, ℕ, Bool, List, [], ◌∷◌, ◌++◌, Option, Result, Err}
use Rattle.std.proofs.Common.{ap, sym, ◌∙◌, subst}
use Rattle.ls_ast.specs.declared.tree.BodyOf.{BodyOf}
use Rattle.ls_ast.specs.declared.tree.DefOf.{DefOf}
use Rattle.ls_ast.specs.declared.tree.DefOf.TheVariants as d
use Rattle.ls_ast.specs.declared.tree.FileOf.{FileOf}
use Rattle.ls_ast.specs.declared.tree.Mark.{Mark}
use Rattle.ls_ast.specs.declared.tree.Pat.{Pat}
use Rattle.ls_base.specs.declared.Line.{Line}
use Rattle.ls_base.specs.declared.Name.{Name}
use Rattle.ls_sig.specs.declared.binder.TypeNote.{TypeNote}
use Rattle.ls_sig.specs.declared.binder.Use.{Use}
use Rattle.ls_sig.specs.declared.env.Env.{Env}
use Rattle.ls_sig.specs.declared.sigs.Sig.{Sig}
use Rattle.ls_terms.specs.declared.types.TypeTerm.{TypeTerm}
use Rattle.type_infer.specs.declared.fault.TypeFault.{TypeFault}
use Rattle.type_infer.specs.Constructors.{case_type}
use Rattle.type_infer.specs.Files.{definition_of, IsTyped, IsIll, AreFunctionsAll, AreTyped}
use Rattle.type_infer.specs.Inference.{IsPrincipalOf, NoneObeys}
use Rattle.type_rules.proofs.Steps.{judged_more}
use Rattle.type_rules.specs.Definitions.{Definition}
use Rattle.type_rules.specs.Files.{LetOf, Judged, Illtyped, Typed, annotation, signature, lets, in_place}
use Rattle.type_rules.specs.Laws.{AreFunctionsIn, annotated_let}
use Rattle.type_schemes.specs.Signatures.{signatures_of}

grouped : {X : Type 0} (xs ys zs : List X) → (xs ++ ys) ++ zs ≡ xs ++ (ys ++ zs)
grouped [] ys zs = refl
grouped (x ∷ xs) ys zs = ap (λ l. x ∷ l) (grouped xs ys zs)

with_none : {X : Type 0} (xs : List X) → xs ++ [] ≡ xs
with_none [] = refl
with_none (x ∷ xs) = ap (λ l. x ∷ l) (with_none xs)

lets_append : (xs ys : List (DefOf Use)) → lets (xs ++ ys) ≡ lets xs ++ lets ys
lets_append [] ys = refl
lets_append (d.Cases line name cases ∷ xs) ys = lets_append xs ys
lets_append (d.Let line node name params marks notes body ∷ xs) ys =
    ap (λ l. record { line = line; node = node; name = name; def = record { params = params; marks = marks; notes = notes; body = body } } ∷ l) (lets_append xs ys)

-- the line of a fault
abbrev pub line_in : {A : Type 0} → Line → Result A TypeFault → Line
line_in other (Err (TypeFault.IllTyped line)) = line
line_in other _ = other

module _ (case_type : ℕ → Option TypeTerm) (limit : ℕ) where
  -- the types of a `let`, with copies of what it keeps
  pub typed_let : (sigs : List Sig) (def : DefOf Use) (line : Line) (node : Bool) (name : Name) (params params' : List Pat) (marks marks' : List Mark) (notes : List Use) (body : BodyOf Use) (rn : List TypeNote) (rb : BodyOf TypeNote)
      → def ≡ d.Let line node name params marks notes body → params' ≡ params → marks' ≡ marks
      → (AreFunctionsIn case_type sigs (record { params = params; marks = marks; notes = notes; body = body })
      → IsPrincipalOf case_type limit sigs (record { params = params; marks = marks; notes = notes; body = body }) (record { params = params; marks = marks; notes = rn; body = rb }))
      → IsTyped case_type limit sigs def (d.Let line node name params' marks' rn rb)
  typed_let sigs def line node name params params' marks marks' notes body rn rb is p_is m_is typed =
      subst (λ z. IsTyped case_type limit sigs z (d.Let line node name params' marks' rn rb)) (sym is) (λ functions.
      let t = typed functions in
      (t.0, t.1, (λ i. d.Let line node name (p_is i) (m_is i) rn rb) ∙ ap (λ (a : Definition TypeNote). d.Let line node name a.params a.marks a.notes a.body) t.2))

  -- where definitions are judged, there is an annotated one in each place
  in_place_let : (sigs : List Sig) (ds : List (DefOf Use)) (as' : List (LetOf TypeNote)) (ss : List Sig) (x : LetOf Use) (a : LetOf TypeNote) → Judged case_type limit sigs (lets ds) as' ss
      → in_place (ds ++ d.Let x.line x.node x.name x.def.params x.def.marks x.def.notes x.def.body ∷ []) (as' ++ a ∷ []) ≡ in_place ds as' ++ definition_of a ∷ []
  in_place_let sigs [] [] [] x a j = refl
  in_place_let sigs [] [] (s ∷ ss) x a j = absurd j
  in_place_let sigs [] (b ∷ as') ss x a j = absurd j
  in_place_let sigs (d.Cases line name cases ∷ ds) as' ss x a j = ap (λ l. d.Cases line name cases ∷ l) (in_place_let sigs ds as' ss x a j)
  in_place_let sigs (d.Let line node name params marks notes body ∷ ds) [] ss x a j = absurd j
  in_place_let sigs (d.Let line node name params marks notes body ∷ ds) (b ∷ as') [] x a j = absurd j
  in_place_let sigs (d.Let line node name params marks notes body ∷ ds) (b ∷ as') (s ∷ ss) x a j =
      ap (λ l. d.Let b.line b.node b.name b.def.params b.def.marks b.def.notes b.def.body ∷ l) (in_place_let (sigs ++ s ∷ []) ds as' ss x a j.2)

  in_place_type : (sigs : List Sig) (ds : List (DefOf Use)) (as' : List (LetOf TypeNote)) (ss : List Sig) (line : Line) (name : Name) (cases : List Name) → Judged case_type limit sigs (lets ds) as' ss
      → in_place (ds ++ d.Cases line name cases ∷ []) as' ≡ in_place ds as' ++ d.Cases line name cases ∷ []
  in_place_type sigs [] as' ss line name cases j = refl
  in_place_type sigs (d.Cases l n cs ∷ ds) as' ss line name cases j = ap (λ z. d.Cases l n cs ∷ z) (in_place_type sigs ds as' ss line name cases j)
  in_place_type sigs (d.Let l node n params marks notes body ∷ ds) [] ss line name cases j = absurd j
  in_place_type sigs (d.Let l node n params marks notes body ∷ ds) (b ∷ as') [] line name cases j = absurd j
  in_place_type sigs (d.Let l node n params marks notes body ∷ ds) (b ∷ as') (s ∷ ss) line name cases j =
      ap (λ z. d.Let b.line b.node b.name b.def.params b.def.marks b.def.notes b.def.body ∷ z) (in_place_type (sigs ++ s ∷ []) ds as' ss line name cases j.2)

  module _ (before : List Sig) where
    -- these definitions are judged, with these annotated ones and these signatures
    pub record Stage (ds : List (DefOf Use)) (done : List (DefOf TypeNote)) (sigs : List Sig) : Type 0 where
      pub annotated : List (LetOf TypeNote)
      pub more : List Sig
      pub judged : Judged case_type limit before (lets ds) annotated more
      pub known : sigs ≡ before ++ more
      pub made : done ≡ in_place ds annotated

    pub at_first : Stage [] [] before
    at_first = record { annotated = []; more = []; judged = tt; known = sym (with_none before); made = refl }

    pub at_last : (ds : List (DefOf Use)) (done : List (DefOf TypeNote)) (sigs : List Sig) → Stage ds done sigs → AreTyped case_type limit before ds done
    at_last ds done sigs s = (s.annotated, s.more, s.judged, s.made)

    with_type : (ds : List (DefOf Use)) (done : List (DefOf TypeNote)) (sigs : List Sig) (line : Line) (name : Name) (cases : List Name) → Stage ds done sigs
        → Stage (ds ++ d.Cases line name cases ∷ []) (done ++ d.Cases line name cases ∷ []) (sigs ++ [])
    with_type ds done sigs line name cases s = record {
      annotated = s.annotated;
      more = s.more;
      judged = subst (λ z. Judged case_type limit before z s.annotated s.more) (sym (lets_append ds (d.Cases line name cases ∷ []) ∙ with_none (lets ds))) s.judged;
      known = with_none sigs ∙ s.known;
      made = ap (λ z. z ++ d.Cases line name cases ∷ []) s.made ∙ sym (in_place_type before ds s.annotated s.more line name cases s.judged);
    }

    with_let : (ds : List (DefOf Use)) (done : List (DefOf TypeNote)) (sigs : List Sig) (x : LetOf Use) (f : ℕ → TypeTerm) → Stage ds done sigs → Typed case_type limit sigs x.def f
        → Stage (ds ++ d.Let x.line x.node x.name x.def.params x.def.marks x.def.notes x.def.body ∷ []) (done ++ definition_of (annotated_let case_type sigs x f) ∷ [])
        (sigs ++ signature x.node x.name (annotation case_type sigs x.def f) ∷ [])
    with_let ds done sigs x f s typed =
        let here = annotated_let case_type sigs x f in
        let sig = signature x.node x.name (annotation case_type sigs x.def f) in
        let typed' : Typed case_type limit (before ++ s.more) x.def f = subst (λ z. Typed case_type limit z x.def f) s.known typed in
        let judged = judged_more case_type limit before (lets ds) s.annotated s.more x f s.judged typed' in
        record {
          annotated = s.annotated ++ here ∷ [];
          more = s.more ++ sig ∷ [];
          judged =
              subst (λ z. Judged case_type limit before z (s.annotated ++ here ∷ []) (s.more ++ sig ∷ []))
              (sym (lets_append ds (d.Let x.line x.node x.name x.def.params x.def.marks x.def.notes x.def.body ∷ [])))
              (subst
              (λ z. Judged case_type limit before (lets ds ++ x ∷ []) (s.annotated ++ annotated_let case_type z x f ∷ []) (s.more ++ signature x.node x.name (annotation case_type z x.def f) ∷ []))
              (sym s.known) judged);
          known = ap (λ z. z ++ sig ∷ []) s.known ∙ grouped before s.more (sig ∷ []);
          made = ap (λ z. z ++ definition_of here ∷ []) s.made ∙ sym (in_place_let before ds s.annotated s.more x here s.judged);
        }

    -- the whole is what is judged, a definition, and what is to come
    module _ (whole ds after : List (DefOf Use)) (done : List (DefOf TypeNote)) (sigs : List Sig) where
      pub with_one : (x : DefOf Use) (r : DefOf TypeNote) (more : List Sig) → whole ≡ ds ++ x ∷ after → AreFunctionsAll case_type limit before (lets whole) → Stage ds done sigs
          → IsTyped case_type limit sigs x r → more ≡ sigs ++ signatures_of (lets (r ∷ [])) → Stage (ds ++ x ∷ []) (done ++ r ∷ []) more
      with_one (d.Cases line name cases) r more is functions s typed added =
          subst (λ z. Stage (ds ++ d.Cases line name cases ∷ []) (done ++ r ∷ []) z) (sym added)
          (subst (λ z. Stage (ds ++ d.Cases line name cases ∷ []) (done ++ z ∷ []) (sigs ++ signatures_of (lets (z ∷ [])))) (sym typed) (with_type ds done sigs line name cases s))
      with_one (d.Let line node name params marks notes body) r more is functions s typed added =
          let def : Definition Use = record { params = params; marks = marks; notes = notes; body = body } in
          let x : LetOf Use = record { line = line; node = node; name = name; def = def } in
          let here = functions (lets ds) x (lets after) s.annotated s.more (ap lets is ∙ lets_append ds (d.Let line node name params marks notes body ∷ after)) s.judged in
          let t = typed (subst (λ z. AreFunctionsIn case_type z def) (sym s.known) here) in
          subst (λ z. Stage (ds ++ d.Let line node name params marks notes body ∷ []) (done ++ r ∷ []) z) (sym added)
          (subst (λ z. Stage (ds ++ d.Let line node name params marks notes body ∷ []) (done ++ z ∷ []) (sigs ++ signatures_of (lets (z ∷ [])))) (sym t.2) (with_let ds done sigs x t.0 s t.1))

      pub ill_at : (x : DefOf Use) (line : Line) → whole ≡ ds ++ x ∷ after → Stage ds done sigs → IsIll case_type limit sigs x line → Illtyped case_type limit before (lets whole) line
      ill_at (d.Cases at' name cases) line is s ill = absurd ill
      ill_at (d.Let at' node name params marks notes body) line is s ill =
          let def : Definition Use = record { params = params; marks = marks; notes = notes; body = body } in
          let x : LetOf Use = record { line = at'; node = node; name = name; def = def } in (
            lets ds,
            x,
            lets after,
            s.annotated,
            s.more,
            ap lets is ∙ lets_append ds (d.Let at' node name params marks notes body ∷ after),
            s.judged,
            ill.0,
            subst (λ z. NoneObeys case_type limit z def) s.known ill.1,
          )

-- what holds of a file and an environment that are told in other ways
module _ (sigs : List Sig) (env' env : Env) (file' file : FileOf Use) (ds' ds : List (DefOf Use)) where
  pub file_typed : (rs : List (DefOf TypeNote)) → env' ≡ env → file' ≡ file → ds' ≡ ds
      → (AreFunctionsAll (case_type env' file') 4096 sigs (lets ds') → AreTyped (case_type env' file') 4096 sigs ds' rs)
      → AreFunctionsAll (case_type env file) 4096 sigs (lets ds) → AreTyped (case_type env file) 4096 sigs ds rs
  file_typed rs e f d h =
      subst (λ z. AreFunctionsAll (case_type z file) 4096 sigs (lets ds) → AreTyped (case_type z file) 4096 sigs ds rs) e
      (subst (λ z. AreFunctionsAll (case_type env' z) 4096 sigs (lets ds) → AreTyped (case_type env' z) 4096 sigs ds rs) f
      (subst (λ z. AreFunctionsAll (case_type env' file') 4096 sigs (lets z) → AreTyped (case_type env' file') 4096 sigs z rs) d h))

  pub file_ill : (line : Line) → env' ≡ env → file' ≡ file → ds' ≡ ds
      → (AreFunctionsAll (case_type env' file') 4096 sigs (lets ds') → Illtyped (case_type env' file') 4096 sigs (lets ds') line)
      → AreFunctionsAll (case_type env file) 4096 sigs (lets ds) → Illtyped (case_type env file) 4096 sigs (lets ds) line
  file_ill line e f d h =
      subst (λ z. AreFunctionsAll (case_type z file) 4096 sigs (lets ds) → Illtyped (case_type z file) 4096 sigs (lets ds) line) e
      (subst (λ z. AreFunctionsAll (case_type env' z) 4096 sigs (lets ds) → Illtyped (case_type env' z) 4096 sigs (lets ds) line) f
      (subst (λ z. AreFunctionsAll (case_type env' file') 4096 sigs (lets z) → Illtyped (case_type env' file') 4096 sigs (lets z) line) d h))
