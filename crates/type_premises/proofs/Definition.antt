-- A parameter of a resolved definition that is marked as a function is one in each annotation.
use Rattle.std.specs.Prelude.{◌≡◌, refl, ℕ, zero, suc, ◌+◌, ◌&&◌, Bool, true, false, List, [], ◌∷◌, ◌++◌, map, length, slice_get, Option, Some, None, if◌then◌else◌}
use Rattle.std.specs.List.{list_any}
use Rattle.std.proofs.Common.{ap, ap₂, sym, ◌∙◌, subst, arith}
use Rattle.std.proofs.lemmas.Bool.{lt-ltb}
use Rattle.ls_ast.specs.declared.tree.Case.{Case}
use Rattle.ls_ast.specs.declared.tree.Expr.{Expr, Expr-F}
use Rattle.ls_ast.specs.declared.tree.Form.TheOpen.{Form-F}
use Rattle.ls_ast.specs.declared.tree.Mark.{Mark}
use Rattle.ls_ast.specs.declared.tree.Plain.{Plain}
use Rattle.ls_places.specs.Places as found
use Rattle.ls_places.specs.declared.places.Variable.{Variable}
use Rattle.ls_places.specs.declared.places.Whole.{Whole}
use Rattle.ls_terms.specs.declared.types.TypeTerm.{TypeTerm}
use Rattle.ls_sig.specs.declared.binder.Binder.{Binder}
use Rattle.ls_sig.specs.declared.binder.Binder.TheVariants as binder
use Rattle.ls_sig.specs.declared.binder.Use.{Use}
use Rattle.ls_sig.specs.declared.sigs.Sig.{Sig}
use Rattle.tree_notes.specs.declared.instances.Placer.{Placer}
use Rattle.tree_notes.specs.Agreement as Ag
use Rattle.tree_notes.specs.Each.{Each}
use Rattle.tree_notes.specs.Noted as T
use Rattle.tree_notes.specs.Numbered.{number_notes, number_body}
use Rattle.tree_notes.specs.Order as Or
use Rattle.tree_notes.proofs.Numbering as Nb
use Rattle.tree_notes.proofs.Refold as Re
use Rattle.tree_notes.proofs.Same.{body_same}
use Rattle.type_rules.specs.Schemes.{is_data}
use Rattle.type_rules.specs.Demands.{Meets}
use Rattle.type_rules.specs.Bodies as B
use Rattle.type_rules.specs.Definitions.{Definition, variables, params_named, vars_named}
use Rattle.type_rules.specs.Expressions.{Reading}
use Rattle.type_rules.specs.Files.{placed, names_count}
use Rattle.type_rules.specs.Laws.{AreFunctionsIn}
use Rattle.type_rules.specs.Numbers.{Placed, bound_of, place_of, place_step, place_next, placer}
use Rattle.type_rules.specs.Principal.{asks_of, names_here, marks_here, types_here}
use Rattle.type_rules.proofs.Placing.{meets_right}
use Rattle.scope_rules.specs.Places as P
use Rattle.scope_rules.specs.Places.{Place, reads, tests}
use Rattle.scope_rules.specs.Claims as C
use Rattle.scope_rules.specs.Claims.{claims, uses}
use Rattle.scope_rules.specs.declared.claims.Claim.{Claim}
use Rattle.scope_rules.specs.declared.claims.Earlier.{Earlier}
use Rattle.scope_rules.specs.declared.claims.Claim.TheVariants.{Named as named}
use Rattle.scope_rules.specs.declared.claims.Stand.{Stand}
use Rattle.scope_rules.specs.declared.claims.Stand.TheVariants.{Asked as questioned}
use Rattle.scope_rules.specs.Faults as F
use Rattle.scope_rules.specs.Faults.{Judged, Sight, asked_by, binder_at, any_claim, mark_at}
use Rattle.scope_rules.specs.Laws.{as_function, function_use, placed_exprs, whole_key, Noted}
use Rattle.scope_rules.specs.Resolved as R
use Rattle.scope_rules.proofs.Again as A
use Rattle.scope_rules.proofs.AsFound.{exprs_alike}
use Rattle.scope_rules.proofs.Functions.{functions_used}
use Rattle.scope_rules.proofs.OtherBodies as O
use Rattle.scope_rules.proofs.OtherNotes.{claims_same, uses_same}
use Rattle.scope_rules.proofs.WholeNotes.{notes_in_sight}
use Rattle.type_premises.proofs.Lists.{either, differ, or_cases, and_false, map_on, each_weaker}
use Rattle.type_premises.proofs.Uses.{Facts}
use Rattle.type_premises.proofs.Expressions.{SameHead, expr_facts}
use Rattle.type_premises.proofs.Bodies.{Asked, body_asked}
use Rattle.type_premises.proofs.Marks.{marked}
use Rattle.type_premises.proofs.Trees.{NotesAre, readings, asks_same, all_notes}

abbrev use_note : Placed → Use
use_note n = n.0

-- earlier definitions, as scope and as types see them
abbrev pub Heads : List Earlier → List Sig → Type 0
Heads [] [] = Unit {0}
Heads (d ∷ ds) (s ∷ ss) = SameHead (Some d) (Some s) × Heads ds ss
Heads _ _ = ⊥

head_at : (ds : List Earlier) (ss : List Sig) → Heads ds ss → (j : ℕ) → SameHead (slice_get ds j) (slice_get ss j)
head_at [] [] h zero = tt
head_at [] [] h (suc j) = tt
head_at (d ∷ ds) (s ∷ ss) h zero = h.0
head_at (d ∷ ds) (s ∷ ss) h (suc j) = head_at ds ss h.1 j
head_at [] (s ∷ ss) h j = absurd h
head_at (d ∷ ds) [] h j = absurd h

module _ (case_type : ℕ → Option TypeTerm) (sigs : List Sig) (d : Judged Plain) (heads : Heads d.known.defs sigs) where
  -- the definition with its binders and marks
  abbrev pub definition : Definition Use
  definition = record { params = d.params; marks = F.marks d; notes = R.no_uses d.params; body = R.resolved_body d }

  abbrev vs : List Variable
  vs = variables sigs case_type definition

  abbrev X : Definition Placed
  X = placed case_type sigs definition

  abbrev names : List ℕ
  names = names_here sigs case_type vs X

  abbrev marks : ℕ → Mark
  marks = marks_here sigs case_type vs X

  abbrev types : Binder → Option ℕ
  types = types_here sigs case_type vs X

  abbrev h : Sight
  h = F.sight d

  abbrev first : ℕ
  first = length d.params

  abbrev state : Placer
  state = (number_notes place_step place_next definition.notes (placer (names_count case_type sigs definition))).1

  always : (ns : List Use) (k : Placer) → Ag.Agree Placer Use Use Placed (λ n. n) place_step place_next use_note k ns
  always [] k = tt
  always (n ∷ ns) k = (refl, always ns (place_next k n))

  -- the body without the numbers of its places
  without : T.in_body Placed Use use_note X.body ≡ R.resolved_body d
  without =
      ap (λ z. T.in_body Placed Use use_note (number_body place_step place_next z state).0) (sym (body_same Use (R.resolved_body d)))
      ∙ (Nb.body_good Placer Use Use Placed (λ n. n) place_step place_next use_note (R.resolved_body d) state (always (Or.notes_body Use (R.resolved_body d)) state)).0

  abbrev rs : List (P.Reading Placed)
  rs = readings use_note d X.body without

  module _ (f : ℕ → TypeTerm) (k : ℕ) (known : types (binder.Param k) ≡ Some k) where
    abbrev said : Expr Placed → Reading ℕ
    said = B.said Placed ℕ bound_of place_of sigs case_type names marks vs types

    facts : (e : Expr Placed) (s : Stand) (p : Place) → NotesAre use_note h d.known (reads e s p) → Facts f k k (claims h.defs (binder_at h p) e) (said e)
    facts e s p n = expr_facts sigs case_type marks (λ j. B.is_signal_at Placed ℕ bound_of place_of sigs case_type names marks vs types (slice_get vs j)) types f k k known
        h.defs (head_at h.defs sigs heads) (binder_at h p) (R.case_of d.known) e n

    reading_forced : (e : Expr Placed) (s : Stand) (p : Place) → list_any (function_use k) (claims h.defs (binder_at h p) e s) ≡ true
        → Asked bound_of place_of sigs case_type names marks vs types f (reads e s p) → NotesAre use_note h d.known (reads e s p) → is_data (f k) ≡ true → ⊥
    reading_forced e s p c a n x = either
        (λ q. either (λ m. q.0 m x) (λ m. either (λ m. q.2 m x) (λ m. q.3 m x) m) a.1)
        (λ q. differ (as_function s) a.0 q.0)
        (facts e s p n s c)

    no_test : (x : ℕ) (p : Place) → list_any (function_use k) (named (binder_at h p x) x questioned ∷ []) ≡ true → ⊥
    no_test x p c =
        let means = F.means_param k (binder_at h p x) in
        either (λ e. differ (means && false) (and_false means) e) (λ e. absurd (cc)) (or_cases (means && false) false c)

    forced : (all : List (P.Reading Placed)) → any_claim (λ p. function_use k) (map (asked_by h) all) ≡ true
        → Each (Asked bound_of place_of sigs case_type names marks vs types f) all → Each (NotesAre use_note h d.known) all → is_data (f k) ≡ true → ⊥
    forced [] c a n x = absurd (cc)
    forced (reads e s p ∷ all) c a n x = either
        (λ c. reading_forced e s p c a.0 n.0 x)
        (λ c. forced all c a.1 n.1 x)
        (or_cases (list_any (function_use k) (claims h.defs (binder_at h p) e s)) (any_claim (λ p. function_use k) (map (asked_by h) all)) c)
    forced (tests y p ∷ all) c a n x = either
        (λ c. no_test y p c)
        (λ c. forced all c a.1 n.1 x)
        (or_cases (list_any (function_use k) (named (binder_at h p y) y questioned ∷ [])) (any_claim (λ p. function_use k) (map (asked_by h) all)) c)

  -- what a definition asks of its body
  of_body : (f : ℕ → TypeTerm) → Meets f (asks_of sigs case_type vs X) → Meets f (B.body_asks Placed ℕ bound_of place_of sigs case_type names marks vs types first X.body)
  of_body f m =
      let heads = params_named sigs case_type marks (λ k. k) names 0 ++ vars_named sigs case_type (λ k. k) vs (length names) in
      let firsts = B.params_ask Placed ℕ bound_of place_of sigs case_type names marks vs types X.params X.marks X.notes 0 in
      meets_right f (heads ++ firsts) (B.body_asks Placed ℕ bound_of place_of sigs case_type names marks vs types first X.body) m

  pub are_functions : AreFunctionsIn case_type sigs definition
  are_functions f m k l e x =
      let known : types (binder.Param k) ≡ Some k = ap (λ (b : Bool). if b then Some k else None) (lt-ltb k (length names) l) in
      let z : 0 + k ≡ k = omega arith in
      let used = functions_used k (F.asks d) (subst (λ j. C.is_function (mark_at (F.asks d) j) ≡ true) z (marked (F.asks d) d.params 0 k e)) in
      forced f k known rs (subst (λ z. any_claim (λ p. function_use k) z ≡ true) (asks_same use_note d X.body without) used)
      (body_asked bound_of place_of sigs case_type names marks vs types f first X.body (of_body f m)) (all_notes use_note d X.body without) x
