-- What a solution of a definition's demands comes to.
use Rattle.std.specs.Prelude.{◌≡◌, ℕ, ◌+◌, ◌≤◌, List, Option, Result, Ok, Err, length, map}
use Rattle.std.proofs.Common.{ap, ap₂, sym, ◌∙◌, subst, arith, inl, inr}
use Rattle.ls_ast.specs.declared.tree.BodyOf.{BodyOf}
use Rattle.ls_ast.specs.declared.tree.Mark.{Mark}
use Rattle.ls_places.specs.declared.places.Variable.{Variable}
use Rattle.ls_sig.specs.declared.binder.TypeNote.{TypeNote}
use Rattle.ls_sig.specs.declared.binder.Use.{Use}
use Rattle.ls_sig.specs.declared.sigs.Sig.{Sig}
use Rattle.ls_terms.specs.declared.types.TypeTerm.{TypeTerm}
use Rattle.ls_terms.specs.Types.{apply}
use Rattle.term_unify.specs.Terms.{first}
use Rattle.tree_notes.specs.Noted.{in_body}
use Rattle.tree_notes.specs.Numbered.{number_body, number_notes}
use Rattle.type_infer.specs.declared.definition.Let.{Let}
use Rattle.type_infer.specs.Inference.{definition, with_trees, IsPrincipalOf, NoneObeys}
use Rattle.type_rules.proofs.Principal.{none_obeys}
use Rattle.type_rules.proofs.Steps as steps
use Rattle.type_rules.specs.declared.demand.Demand.{Demand}
use Rattle.type_rules.specs.Definitions.{Definition, with_notes, variables, param_names, definition_asks}
use Rattle.type_rules.specs.Demands.{hole, pairs}
use Rattle.type_rules.specs.Files.{placed, names_count, Typed}
use Rattle.type_rules.specs.Laws.{asks_in, AreFunctionsIn, NoneSmall}
use Rattle.type_rules.specs.Numbers.{Placed, bound_of, place_of, placer, place_step, place_next, numbered}
use Rattle.type_rules.specs.Principal.{typed_by}
use Rattle.type_solve.specs.Solution.{Solves, HasOther, IsUnsolvable}

-- the fault of an answer
abbrev pub fault_in : {A E : Type 0} → E → Result A E → E
fault_in other (Err fault) = fault
fault_in other (Ok it) = other

module _ (case_type : ℕ → Option TypeTerm) (sigs : List Sig) (d : Let) where
  -- what the walk collects is what the definition asks
  pub asked_by : (vs : List Variable) (names : List ℕ) (from : ℕ) (slice : List Use) (marks : List Mark) (notes again : List Placed) (body : BodyOf Placed) (ds : List (Demand ℕ))
      → names ≡ param_names d.params.now → vs ≡ variables sigs case_type (definition d) → from ≡ length names + length vs → slice ≡ d.notes.now
      → notes ≡ (number_notes place_step place_next slice (placer from)).0 → body ≡ (number_body place_step place_next d.body.now (number_notes place_step place_next slice (placer from)).1).0
      → marks ≡ d.marks.now → again ≡ notes
      → ds ≡ definition_asks sigs case_type bound_of place_of vs (λ k. k) (record { params = d.params.now; marks = marks; notes = again; body = body })
      → ds ≡ asks_in case_type sigs (definition d)
  asked_by vs names from slice marks notes again body ds n_is v_is f_is s_is notes_is body_is m_is a_is now =
      let tree : ◌≡◌ {A = Definition Placed} (record { params = d.params.now; marks = marks; notes = again; body = body }) (numbered (definition d) from) = λ i. record {
        params = d.params.now;
        marks = m_is i;
        notes = (a_is ∙ notes_is ∙ ap (λ z. (number_notes place_step place_next z (placer from)).0) s_is) i;
        body = (body_is ∙ ap (λ z. (number_body place_step place_next d.body.now (number_notes place_step place_next z (placer from)).1).0) s_is) i;
      } in
      let count : from ≡ names_count case_type sigs (definition d) = f_is ∙ ap₂ (λ a b. length a + length b) n_is v_is in
      now ∙ ap₂ (λ v t. definition_asks sigs case_type bound_of place_of v (λ k. k) t) v_is (tree ∙ ap (numbered (definition d)) count)

some : 1 ≤ 4096
some = omega arith

-- what a solution gives each place, behind so many variables of the demands' own
abbrev pub types_by : List (ℕ × TypeTerm) → ℕ → ℕ → TypeTerm
types_by list own k = apply (first list) (hole own k)

module _ (case_type : ℕ → Option TypeTerm) (sigs : List Sig) (d : Let) (ds : List (Demand ℕ)) (asks : ds ≡ asks_in case_type sigs (definition d)) where
  pub typed_by_solution : (notes : List Placed) (body : BodyOf Placed) (own : ℕ) (list : List (ℕ × TypeTerm)) (rn : List TypeNote) (rb : BodyOf TypeNote)
      → with_trees d notes body ≡ placed case_type sigs (definition d) → Solves ds 4096 own (first list)
      → rn ≡ map (typed_by (types_by list own)) notes → rb ≡ in_body Placed TypeNote (typed_by (types_by list own)) body
      → AreFunctionsIn case_type sigs (definition d) → IsPrincipalOf case_type 4096 sigs (definition d) (with_trees d rn rb)
  typed_by_solution notes body own list rn rb is solves n_is b_is functions =
      let q : Solves (asks_in case_type sigs (definition d)) 4096 own (first list) = subst (λ z. Solves z 4096 own (first list)) asks solves in
      let t = steps.typed case_type 4096 sigs (definition d) (first list) some q.unifies q.general q.few q.known functions in (
        types_by list own,
        subst (λ o. Typed case_type 4096 sigs (definition d) (types_by list o)) (sym q.many) t,
        ap₂ (λ n b. with_trees d n b) n_is b_is ∙ ap (with_notes (typed_by (types_by list own))) is,
      )

  pub none_by_fault : IsUnsolvable ds 4096 → NoneObeys case_type 4096 sigs (definition d)
  none_by_fault (inl none) f o small =
      steps.ill_by_clash case_type 4096 sigs (definition d) some (subst (λ z. NoneSmall 4096 (pairs z)) asks none) f o small
  none_by_fault (inr other) f o small =
      let q = subst (λ z. HasOther z) asks other in
      none_obeys sigs case_type (variables sigs case_type (definition d)) (placed case_type sigs (definition d)) q.0 q.1 q.2 q.3 f o
