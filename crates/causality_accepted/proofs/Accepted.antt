-- The definitions of a file whose scope, types and clocks are judged.
use Rattle.std.specs.Prelude.{◌≡◌, refl, ℕ, zero, suc, List, [], ◌∷◌, ◌++◌, map, Option, ◌<◌, true, false, Some}
use Rattle.std.proofs.Common.{ap, sym, ◌∙◌, subst}
use Rattle.ls_ast.specs.declared.tree.BodyOf.{BodyOf}
use Rattle.ls_ast.specs.declared.tree.DefOf.{DefOf}
use Rattle.ls_ast.specs.declared.tree.DefOf.TheVariants as item
use Rattle.ls_ast.specs.declared.tree.FileOf.{FileOf}
use Rattle.ls_ast.specs.declared.tree.Mark.{Mark}
use Rattle.ls_ast.specs.declared.tree.Pat.{Pat}
use Rattle.ls_ast.specs.declared.tree.Plain.{Plain}
use Rattle.ls_terms.specs.declared.types.TypeTerm.{TypeTerm}
use Rattle.ls_sig.specs.Environment.{empty}
use Rattle.ls_sig.specs.declared.binder.Note.{Note}
use Rattle.ls_sig.specs.declared.binder.TypeNote.{TypeNote}
use Rattle.ls_sig.specs.declared.env.Env.{Env}
use Rattle.ls_sig.specs.declared.sigs.Item.{Item}
use Rattle.ls_places.specs.Clocks.{or_else}
use Rattle.ls_places.specs.Definitions.{case_place, constructor_place, definition_of, definitions, place_in}
use Rattle.ls_places.specs.Search.{nth}
use Rattle.ls_places.specs.declared.definition.Definition.{Definition}
use Rattle.tree_notes.specs.Each.{Each}
use Rattle.tree_notes.specs.Noted as T
use Rattle.tree_notes.specs.Noted.{in_definition}
use Rattle.clock_rules.specs.declared.scheme.ClockScheme.{ClockScheme}
use Rattle.clock_rules.specs.Files as clocks
use Rattle.clock_rules.specs.Files.{scheme}
use Rattle.clock_rules.specs.Fresh.{erase, facts_of}
use Rattle.clock_rules.specs.Judged.{IsPrincipal}
use Rattle.clock_rules.proofs.Sides.{all_both}
use Rattle.clock_laws.specs.Scoped.{IsScoped, IsWell}
use Rattle.clock_laws.proofs.Schemes.{is_well}
use Rattle.clock_premises.proofs.Files.{EachFromScope, FromScope, files_resolved, resolved_scoped}
use Rattle.kahn_model.specs.Causality.{AllCausal, ArgTo, AroundTo, Nests, Sound, SoundBody}
use Rattle.kahn_model.specs.Fullness.{All, Full}
use Rattle.kahn_model.specs.Functions.{Arg, Around}
use Rattle.kahn_model.specs.Reads.{Shape, shapes_of}
use Rattle.kahn_model.specs.Rows.{IsKnown}
use Rattle.kahn_model.specs.Table.{meaning, network, table_of}
use Rattle.kahn_model.proofs.AnyShapes.{sound_by_nesting}
use Rattle.kahn_model.proofs.Depth.{SoundAt, calls_known, meaning_known, table_full}
use Rattle.kahn_model.proofs.Knowing.{some_known}
use Rattle.kahn_model.proofs.Solutions.{meaning_monotone}
use Rattle.causality_rules.specs.Files.{AllRanked, lets}
use Rattle.causality_links.specs.Close.{Close, Scoped}
use Rattle.causality_links.proofs.Files.{file_is_causal}
use Rattle.causality_premises.specs.Premises.{ClocksKnown}
use Rattle.causality_premises.proofs.Scope.{reads_scoped}
use Rattle.causality_accepted.specs.Laws.{IsAccepted, IsJudged}
use Rattle.causality_accepted.proofs.Moved as M
use Rattle.causality_accepted.proofs.Moved.{NodeUsed, each_nth, each_zip}
use Rattle.causality_accepted.proofs.Used as Us
use Rattle.causality_accepted.proofs.Closed as Cl

-- what holds of a definition
record Fit (d : Definition) : Type 0 where
  pub known : ClocksKnown d
  pub close : Close d
  pub scoped : (shapes : List Shape) → Scoped d shapes

module _ (cases : ℕ → Option ℕ) where
  module _ (schemes : List ClockScheme) (params : List Pat) (marks : List Mark) (notes : List Note) (body : BodyOf Note)
      (wells : Each IsWell schemes) (r : FromScope cases schemes params marks notes body)
      (p : IsPrincipal schemes cases params marks (map erase notes) (T.in_body Note TypeNote erase body) notes body) where
    abbrev type_notes : List TypeNote
    type_notes = map erase notes

    abbrev typed_body : BodyOf TypeNote
    typed_body = T.in_body Note TypeNote erase body

    scoped : IsScoped schemes (facts_of schemes cases params marks notes body)
    scoped = resolved_scoped cases schemes params marks notes body r

    used : Each (NodeUsed schemes (M.V schemes cases params marks notes body)) (facts_of schemes cases params marks notes body).nodes
    used = subst (λ (z : Type 0). z) (λ i. Each (NodeUsed schemes (M.V schemes cases (sym r.params_are i) (sym r.marks_are i) notes body)) (facts_of schemes cases (sym r.params_are i) (sym r.marks_are i) notes body).nodes)
        (Us.used r.judged schemes cases notes body r.is r.sound r.heads r.given)

    known : ClocksKnown (definition_of cases params notes body)
    known = Cl.clocks_known schemes cases params marks type_notes typed_body notes body p wells scoped used

    fit : Fit (definition_of cases params notes body)
    fit = record {
      known = known;
      close = Cl.closed schemes cases params marks type_notes typed_body notes body p wells scoped used;
      scoped = λ shapes. subst (λ z. ClocksKnown (definition_of cases z notes body) → Scoped (definition_of cases z notes body) shapes) (sym r.params_are) (reads_scoped r.judged cases notes body shapes r.is) known;
    }

    well : IsWell (scheme marks notes body.result.note.ck)
    well = is_well schemes cases params marks type_notes typed_body notes body wells scoped p

  all_fit : (schemes : List ClockScheme) (tree : List (DefOf Note)) → Each IsWell schemes → EachFromScope cases schemes tree → clocks.Judged cases schemes tree → Each Fit (definitions cases tree)
  all_fit schemes [] w r p = tt
  all_fit schemes (item.Cases line name all ∷ tree) w r p = all_fit schemes tree w r p
  all_fit schemes (item.Let line node name params marks notes body ∷ tree) w r p =
      let own : ClockScheme = scheme marks notes body.result.note.ck in (
        fit schemes params marks notes body w r.0 p.0,
        all_fit (schemes ++ own ∷ []) tree (all_both IsWell schemes (own ∷ []) w (well schemes params marks notes body w r.0 p.0, tt)) r.1 p.1,
      )

each_part : {A : Type 0} (P Q : A → Type 0) (xs : List A) → ((x : A) → P x → Q x) → Each P xs → Each Q xs
each_part P Q xs f h = each_zip P P Q (λ x a b. f x a) xs h h

module _ (case_type : ℕ → Option TypeTerm) (limit : ℕ) (cases : ℕ → Option ℕ) (env : Env) (file : FileOf Plain) (schemes : List ClockScheme) (tree : List (DefOf Note))
    (j : IsJudged case_type limit cases env file schemes tree) where
  fits : Each Fit (definitions cases tree)
  fits = all_fit cases schemes tree j.well (files_resolved case_type limit cases env file j.annotated j.sigs schemes tree j.scope j.schemes_of j.types j.noted) j.clocks

  pub clocks_are_known : Each ClocksKnown (definitions cases tree)
  clocks_are_known = each_part Fit ClocksKnown (definitions cases tree) (λ d h. h.known) fits

  pub bodies_are_close : Each Close (definitions cases tree)
  bodies_are_close = each_part Fit Close (definitions cases tree) (λ d h. h.close) fits

  pub bodies_are_scoped : Each (λ (d : Definition). (shapes : List Shape) → Scoped d shapes) (definitions cases tree)
  bodies_are_scoped = each_part Fit (λ (d : Definition). (shapes : List Shape) → Scoped d shapes) (definitions cases tree) (λ d h. h.scoped) fits

  pub judged_is_causal : (ranks : List (List (Item × ℕ))) → AllRanked (lets cases tree) ranks → AllCausal (definitions cases tree)
  judged_is_causal ranks r = file_is_causal cases tree ranks r (λ k d e. let h = each_nth Fit (definitions cases tree) k d fits e in (h.close, h.scoped []))

-- ---- the constructors of a file do not depend on its notes

constructors_same : (x : ℕ) (tree : List (DefOf Note)) → constructor_place (map (in_definition Note TypeNote erase) tree) x ≡ constructor_place tree x
constructors_same x [] = refl
constructors_same x (item.Cases line name all ∷ tree) = ap (or_else (place_in x all 0)) (constructors_same x tree)
constructors_same x (item.Let line node name params marks notes body ∷ tree) = constructors_same x tree

cases_at : (tree : List (DefOf Note)) (x : ℕ) → case_place (map (in_definition Note TypeNote erase) tree) x ≡ case_place tree x
cases_at tree zero = refl
cases_at tree (suc zero) = refl
cases_at tree (suc (suc x)) = constructors_same (suc (suc x)) tree

cases_same : (tree : List (DefOf Note)) → case_place (map (in_definition Note TypeNote erase) tree) ≡ case_place tree
cases_same tree = λ i x. cases_at tree x i

module _ (case_type : ℕ → Option TypeTerm) (limit : ℕ) (file : FileOf Plain) (tree : List (DefOf Note)) (ranks : List (List (Item × ℕ))) (j : IsAccepted case_type limit file tree ranks) where
  abbrev cases : ℕ → Option ℕ
  cases = case_place tree

  abbrev defs : List Definition
  defs = definitions cases tree

  pub accepted_is_causal : AllCausal defs
  accepted_is_causal =
      judged_is_causal case_type limit cases empty file [] tree (record {
        annotated = j.annotated;
        sigs = j.sigs;
        scope = j.scope;
        types = j.types;
        noted = j.noted ∙ j.typed_as;
        clocks = subst (λ z. clocks.Judged z [] tree) (ap case_place (sym j.noted) ∙ cases_same tree) j.clocks;
        schemes_of = tt;
        well = tt;
      }) ranks j.ranked

  pub tables_are_full : (n depth k : ℕ) (d : Definition) (a : Around) → nth defs k ≡ Some d → Nests defs (suc depth) k (shapes_of a.args) → ((i : ℕ) → i < n → AroundTo i a)
      → Full (table_of cases defs n (meaning cases defs n depth) d a)
  tables_are_full n depth k d a e nests around =
      let sound : SoundBody (Sound defs depth) (Some d) (shapes_of a.args) =
      subst (λ o. SoundBody (Sound defs depth) o (shapes_of a.args)) e (sound_by_nesting defs accepted_is_causal (suc depth) k (shapes_of a.args) nests) in
      table_full cases defs n (meaning cases defs n depth) (meaning_monotone cases defs n depth) (SoundAt cases defs n depth) d a sound.0 sound.1 around
      (λ i b. calls_known cases defs n depth i b)

  pub results_are_known : (n k : ℕ) (args : List Arg) (i : ℕ) → i < n → Nests defs 201 k (shapes_of args) → All (ArgTo i) args → IsKnown (network cases defs n k args i)
  results_are_known n k args i l nests known = meaning_known cases defs n 201 k
      (record { active = λ i. Some true; again = λ i. Some false; clocks = λ w i. Some true; args = args }) i l (sound_by_nesting defs accepted_is_causal 201 k (shapes_of args) nests)
      (record { active = λ j b. some_known true; again = λ j b. some_known false; clocks = λ w j b. some_known true; args = known })
