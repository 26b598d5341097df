-- The definitions of a file, one after the other.
use Rattle.std.specs.Prelude.{◌≡◌, refl, ℕ, ◌+◌, Bool, true, List, [], ◌∷◌, ◌++◌, map, length, Option, option_map}
use Rattle.std.proofs.Common.{ap, sym, ◌∙◌, subst, arith, append_assoc}
use Rattle.ls_base.specs.declared.Line.{Line}
use Rattle.ls_base.specs.declared.Name.{Name}
use Rattle.ls_ast.specs.declared.tree.BodyOf.{BodyOf}
use Rattle.ls_ast.specs.declared.tree.DefOf.{DefOf}
use Rattle.ls_ast.specs.declared.tree.FileOf.{FileOf}
use Rattle.ls_ast.specs.declared.tree.Pat.{Pat}
use Rattle.ls_ast.specs.declared.tree.Plain.{Plain}
use Rattle.ls_terms.specs.declared.types.TypeTerm.{TypeTerm}
use Rattle.ls_terms.specs.declared.types.TypeTerm.TheVariants as t
use Rattle.ls_sig.specs.declared.binder.TypeNote.{TypeNote}
use Rattle.ls_sig.specs.declared.binder.Use.{Use}
use Rattle.ls_sig.specs.declared.env.Env.{Env}
use Rattle.ls_sig.specs.declared.sigs.Sig.{Sig}
use Rattle.tree_notes.specs.Each.{Each}
use Rattle.type_rules.specs.Demands.{Meets}
use Rattle.type_rules.specs.Schemes.{is_data}
use Rattle.type_rules.specs.Bodies as B
use Rattle.type_rules.specs.Bodies.{index_of}
use Rattle.type_rules.specs.Definitions.{Definition, variables, params_named, vars_named}
use Rattle.type_rules.specs.Files.{LetOf, Judged, Typed, annotation, appearing, lets, note_types, placed, signature}
use Rattle.type_rules.specs.Laws.{AreFunctionsIn}
use Rattle.type_rules.specs.Numbers.{Placed, bound_of, place_of}
use Rattle.type_rules.specs.Principal.{asks_of, names_here, marks_here, types_here}
use Rattle.type_rules.proofs.Placing.{meets_left, meets_right}
use Rattle.type_rules.proofs.Principal.{obeys_is}
use Rattle.scope_rules.specs.After as After
use Rattle.scope_rules.specs.Claims.{Known}
use Rattle.scope_rules.specs.declared.claims.Earlier.{Earlier}
use Rattle.scope_rules.specs.Faults as F
use Rattle.scope_rules.specs.File.{known_after}
use Rattle.scope_rules.specs.Resolved.{resolved_defs, resolved_body, no_uses}
use Rattle.type_premises.specs.Premises.{FunctionParams, AreFunctionsAll, definitions}
use Rattle.type_premises.proofs.Lists.{rest, first_or}
use Rattle.type_premises.proofs.Definition.{Heads, are_functions}
use Rattle.type_premises.proofs.Names.{param_types}

end_nil : {A : Type 0} (xs : List A) → xs ++ [] ≡ xs
end_nil [] = refl
end_nil (x ∷ xs) = ap (λ z. x ∷ z) (end_nil xs)

no_items : {A : Type 0} (xs ys : List A) (x : A) → [] ≡ xs ++ x ∷ ys → ⊥
no_items [] ys x e = let l = ap length e in omega (arith, l)
no_items (y ∷ xs) ys x e = let l = ap length e in omega (arith, l)

-- one more definition
more_heads : (ds : List Earlier) (ss : List Sig) (d : Earlier) (s : Sig) → d.marks ≡ s.marks → FunctionParams s → Heads ds ss → Heads (ds ++ d ∷ []) (ss ++ s ∷ [])
more_heads [] [] d s e g h = ((e, g), tt)
more_heads (x ∷ ds) (y ∷ ss) d s e g h = (h.0, more_heads ds ss d s e g h.1)
more_heads [] (y ∷ ss) d s e g h = absurd h
more_heads (x ∷ ds) [] d s e g h = absurd h

-- earlier definitions of an environment
env_heads : (g : ℕ → ℕ) (ss : List Sig) → Each FunctionParams ss → Heads (map (After.earlier_of g) ss) ss
env_heads g [] h = tt
env_heads g (s ∷ ss) h = ((refl, h.0), env_heads g ss h.1)

module _ (case_type : ℕ → Option TypeTerm) (limit : ℕ) where
  -- the signature of a definition that is typed
  signature_good : (sigs : List Sig) (node : Bool) (name : Name) (d : Definition Use) (f : ℕ → TypeTerm) → AreFunctionsIn case_type sigs d → Typed case_type limit sigs d f
      → FunctionParams (signature node name (annotation case_type sigs d f))
  signature_good sigs node name d f functions typed =
      let vs = variables sigs case_type d in
      let x : Definition Placed = placed case_type sigs d in
      let names = names_here sigs case_type vs x in
      let marks = marks_here sigs case_type vs x in
      let types = types_here sigs case_type vs x in
      let m : Meets f (asks_of sigs case_type vs x) = subst (λ (P : Type 0). P) (obeys_is sigs case_type vs x f) typed.1.obeys in
      let heads = params_named sigs case_type marks (λ k. k) names 0 ++ vars_named sigs case_type (λ k. k) vs (length names) in
      let firsts = B.params_ask Placed ℕ bound_of place_of sigs case_type names marks vs types x.params x.marks x.notes 0 in
      let inside = B.body_asks Placed ℕ bound_of place_of sigs case_type names marks vs types (length x.params) x.body in
      let a = annotation case_type sigs d f in
      let order = appearing (note_types a.notes ++ a.body.result.note.ty ∷ []) in
      param_types sigs case_type names marks vs (length names) (length vs) f (λ v. option_map (λ k. t.Var (0 + k)) (index_of v order 0)) x.params x.marks x.notes 0 (meets_right f heads firsts (meets_left f (heads ++ firsts) inside m))
      (λ i l e q. let z : 0 + i ≡ i = omega arith in functions f m i l e (subst (λ j. is_data (f j) ≡ true) z q))

  -- an annotated definition
  abbrev Annotated : List Sig → LetOf Use → LetOf TypeNote → Type 0
  Annotated sigs b a = (f : ℕ → TypeTerm) × Typed case_type limit sigs b.def f × (a ≡ record { line = b.line; node = b.node; name = b.name; def = annotation case_type sigs b.def f })

  -- what its signature keeps
  record Kept (b : LetOf Use) (s : Sig) : Type 0 where
    pub marks : b.def.marks ≡ s.marks
    pub params : FunctionParams s

  kept : (sigs : List Sig) (b : LetOf Use) (a : LetOf TypeNote) (s : Sig) → AreFunctionsIn case_type sigs b.def → Annotated sigs b a → s ≡ signature a.node a.name a.def → Kept b s
  kept sigs b a s functions h e =
      let path : s ≡ signature b.node b.name (annotation case_type sigs b.def h.0) = e ∙ ap (λ (z : LetOf TypeNote). signature z.node z.name z.def) h.2 in
      record {
        marks = sym (ap (λ (z : Sig). z.marks) path);
        params = subst FunctionParams (sym path) (signature_good sigs b.node b.name b.def h.0 functions h.1);
      }

  module _ (words : List (List ℕ)) where
    abbrev judge : Known → Bool → Name → List Pat → BodyOf Plain → F.Judged Plain
    judge k node f params body = record { names = words; known = k; title = f.0; node = node; params = params; body = body }

    -- the definition that resolution gives
    abbrev let_of : Line → Name → F.Judged Plain → LetOf Use
    let_of line f d = record { line = line; node = d.node; name = f; def = record { params = d.params; marks = F.marks d; notes = no_uses d.params; body = resolved_body d } }

    functions : (k : Known) (sigs : List Sig) (ds : List (DefOf Plain)) → Heads k.defs sigs → AreFunctionsAll case_type limit sigs (lets (resolved_defs words k ds))
    functions k sigs [] h bs x after as' ss e j = absurd (no_items bs after x e)
    functions k sigs (DefOf.Cases line t cs ∷ ds) h bs x after as' ss e j = functions (known_after {N = Plain} words k (DefOf.Cases line t cs)) sigs ds h bs x after as' ss e j
    functions k sigs (DefOf.Let line node f params ms ns body ∷ ds) h [] x after [] [] e j =
        let d : F.Judged Plain = judge k node f params body in
        subst (λ (z : LetOf Use). AreFunctionsIn case_type (sigs ++ []) z.def) (ap (first_or (let_of line f d)) e)
        (subst (λ z. AreFunctionsIn case_type z (let_of line f d).def) (sym (end_nil sigs)) (are_functions case_type sigs d h))
    functions k sigs (DefOf.Let line node f params ms ns body ∷ ds) h [] x after (a ∷ as') ss e j = absurd j
    functions k sigs (DefOf.Let line node f params ms ns body ∷ ds) h [] x after [] (s ∷ ss) e j = absurd j
    functions k sigs (DefOf.Let line node f params ms ns body ∷ ds) h (b ∷ bs) x after [] ss e j = absurd j
    functions k sigs (DefOf.Let line node f params ms ns body ∷ ds) h (b ∷ bs) x after (a ∷ as') [] e j = absurd j
    functions k sigs (DefOf.Let line node f params ms ns body ∷ ds) h (b ∷ bs) x after (a ∷ as') (s ∷ ss) e j =
        let d : F.Judged Plain = judge k node f params body in
        let here : let_of line f d ≡ b = ap (first_or (let_of line f d)) e in
        let good : Kept (let_of line f d) s = kept sigs (let_of line f d) a s (are_functions case_type sigs d h) (subst (λ z. Annotated sigs z a) (sym here) j.0) j.1 in
        subst (λ z. AreFunctionsIn case_type z x.def) (append_assoc sigs (s ∷ []) ss)
        (functions (known_after {N = Plain} words k (DefOf.Let line node f params ms ns body)) (sigs ++ s ∷ []) ds (more_heads k.defs sigs (F.seen_later d) s good.marks good.params h) bs x after as' ss (ap rest e) j.2)

    signatures : (k : Known) (sigs : List Sig) (ds : List (DefOf Plain)) → Heads k.defs sigs → (as' : List (LetOf TypeNote)) (ss : List Sig) → Judged case_type limit sigs (lets (resolved_defs words k ds)) as' ss → Each FunctionParams ss
    signatures k sigs [] h [] [] j = tt
    signatures k sigs [] h [] (s ∷ ss) j = absurd j
    signatures k sigs [] h (a ∷ as') ss j = absurd j
    signatures k sigs (DefOf.Cases line t cs ∷ ds) h as' ss j = signatures (known_after {N = Plain} words k (DefOf.Cases line t cs)) sigs ds h as' ss j
    signatures k sigs (DefOf.Let line node f params ms ns body ∷ ds) h [] ss j = absurd j
    signatures k sigs (DefOf.Let line node f params ms ns body ∷ ds) h (a ∷ as') [] j = absurd j
    signatures k sigs (DefOf.Let line node f params ms ns body ∷ ds) h (a ∷ as') (s ∷ ss) j =
        let d : F.Judged Plain = judge k node f params body in
        let good : Kept (let_of line f d) s = kept sigs (let_of line f d) a s (are_functions case_type sigs d h) j.0 j.1 in
        (good.params, signatures (known_after {N = Plain} words k (DefOf.Let line node f params ms ns body)) (sigs ++ s ∷ []) ds (more_heads k.defs sigs (F.seen_later d) s good.marks good.params h) as' ss j.2)

  pub functions_of_scope : (env : Env) (file : FileOf Plain) → Each FunctionParams env.sigs → AreFunctionsAll case_type limit env.sigs (definitions env file)
  functions_of_scope env file h =
      functions (After.names_after env file.names) (After.known_by env file.names) env.sigs file.defs (env_heads (After.renumbered (After.names_after env file.names) env.names) env.sigs h)

  pub signatures_of_scope : (env : Env) (file : FileOf Plain) (as' : List (LetOf TypeNote)) (ss : List Sig) → Each FunctionParams env.sigs → Judged case_type limit env.sigs (definitions env file) as' ss → Each FunctionParams ss
  signatures_of_scope env file as' ss h j =
      signatures (After.names_after env file.names) (After.known_by env file.names) env.sigs file.defs (env_heads (After.renumbered (After.names_after env file.names) env.names) env.sigs h) as' ss j
