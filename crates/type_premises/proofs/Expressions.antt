-- Whether a parameter is a function in an expression, by induction over the expression.
use Rattle.std.specs.Prelude.{◌≡◌, refl, ℕ, ◌==◌, ◌&&◌, Bool, true, false, List, [], ◌∷◌, ◌++◌, map, length, slice_get, Option, Some, None, if◌then◌else◌}
use Rattle.std.specs.List.{list_any}
use Rattle.std.proofs.Common.{ap, sym, ◌∙◌, subst, inl, inr}
use Rattle.std.proofs.lemmas.Bool.{and_parts, eqb-true}
use Rattle.ls_ast.specs.declared.tree.Case.{Case}
use Rattle.ls_ast.specs.declared.tree.Case.TheVariants as case
use Rattle.ls_ast.specs.declared.tree.Mark.{Mark}
use Rattle.ls_ast.specs.declared.tree.Mark.TheVariants as mark
use Rattle.ls_ast.specs.declared.tree.Expr.{Expr, Expr-F, fold-roll-Expr, ind-Expr, roll-Expr}
use Rattle.ls_ast.specs.declared.tree.Form.{Form, fold-roll-Form, map-Form, roll-Form}
use Rattle.ls_ast.specs.declared.tree.Form.TheOpen.{Form-F}
use Rattle.ls_ops.specs.Signature.{signature_of}
use Rattle.ls_terms.specs.declared.types.TypeTerm.{TypeTerm}
use Rattle.ls_terms.specs.declared.types.TypeTerm.TheVariants as t
use Rattle.ls_sig.specs.declared.binder.Binder.{Binder}
use Rattle.ls_sig.specs.declared.binder.Binder.TheVariants as binder
use Rattle.ls_sig.specs.declared.binder.Use.{Use}
use Rattle.ls_sig.specs.declared.sigs.Sig.{Sig}
use Rattle.tree_notes.specs.Each.{Each}
use Rattle.tree_notes.specs.Order as Or
use Rattle.type_rules.specs.declared.demand.Demand.{Demand}
use Rattle.type_rules.specs.declared.demand.Demand.TheVariants.{Fits, Never}
use Rattle.type_rules.specs.Numbers.{Placed, bound_of, place_of}
use Rattle.type_rules.specs.Expressions as ex
use Rattle.type_rules.specs.Expressions.{any, Reading, reading, streams, zip_fits, operand_types, result_type, literal_type, vars_from, condition, asked, name_reading, application, call_of}
use Rattle.scope_rules.specs.Places.{stream}
use Rattle.scope_rules.specs.declared.claims.Claim.{Claim}
use Rattle.scope_rules.specs.declared.claims.Claim.TheVariants.{Constructor as constructor, Branches as branches, Timed as timed}
use Rattle.scope_rules.specs.declared.claims.Earlier.{Earlier}
use Rattle.scope_rules.specs.declared.claims.Stand.{Stand}
use Rattle.scope_rules.specs.declared.claims.Stand.TheVariants.{At as at, Before as before, Asked as questioned, Applied as applied}
use Rattle.scope_rules.specs.Claims as C
use Rattle.scope_rules.specs.Claims.{Claims, claims, form_claims, uses, uses_in, use_of, joined_uses, branch_uses, all_at, all_branches, proper, claim_of, case_claims, merge_claims, applied_by, head_by, head_def, if_any}
use Rattle.scope_rules.specs.Faults.{means_param}
use Rattle.scope_rules.specs.Laws.{as_function, function_use}
use Rattle.type_premises.specs.Premises.{FunctionTypes}
use Rattle.type_premises.proofs.Lists.{either, or_cases, and_false, rest, first_or, regroup}
use Rattle.type_premises.proofs.Uses.{Forces, forces_left, forces_right, forces_after, forces_if, Four, four, never, Used, split, skip, proper_none, proper_first, Same, Facts, Part, claims_in, readings_in, four_at, streams_forced, claims_if, reading_if, def_forced, application_forced, head_forced}

abbrev used : Placed → Use
used n = n.0

-- an earlier definition, as scope and as types see it
abbrev pub SameHead : Option Earlier → Option Sig → Type 0
SameHead None None = Unit {0}
SameHead (Some d) (Some s) = (d.marks ≡ s.marks) × FunctionTypes s.marks s.params
SameHead _ _ = ⊥

means_is : (k : ℕ) (z : Binder) → means_param k z ≡ true → z ≡ binder.Param k
means_is k (binder.Param i) h = ap binder.Param (eqb-true i k h)
means_is k binder.Nothing h = absurd (cc)
means_is k (binder.Def j) h = absurd (cc)
means_is k (binder.Var j) h = absurd (cc)
means_is k (binder.Case e j) h = absurd (cc)

module _ (sigs : List Sig) (case_type : ℕ → Option TypeTerm) (marks : ℕ → Mark) (signals : ℕ → Bool) (type_of : Binder → Option ℕ) (f : ℕ → TypeTerm) (k u : ℕ) (known : type_of (binder.Param k) ≡ Some u)
    (defs : List Earlier) (heads : (j : ℕ) → SameHead (slice_get defs j) (slice_get sigs j)) (bound cases : ℕ → Binder) where
  abbrev pub reading_of : Expr Placed → Reading ℕ
  reading_of = ex.reading_of bound_of place_of sigs case_type marks signals type_of

  abbrev form_reading : Form Placed → Placed → Reading ℕ
  form_reading = ex.reading_of_form bound_of place_of sigs case_type marks signals type_of

  abbrev step : Form-F Placed (Placed → Reading ℕ) (Reading ℕ) → Placed → Reading ℕ
  step = ex.form_step bound_of place_of sigs case_type marks signals type_of

  abbrev estep : Expr-F Placed (Placed → Reading ℕ) (Reading ℕ) → Reading ℕ
  estep = ex.expr_step bound_of place_of sigs case_type marks signals type_of

  abbrev cstep : Form-F Placed Claims Claims → Claims
  cstep = C.form_step defs bound

  abbrev cestep : Expr-F Placed Claims Claims → Claims
  cestep = C.expr_step defs bound

  abbrev ustep : Form-F Placed (List Use) (List Use) → List Use
  ustep = C.form_uses bound cases

  abbrev uestep : Expr-F Placed (List Use) (List Use) → List Use
  uestep = C.expr_uses bound cases

  abbrev F : Claims → Reading ℕ → Type 0
  F = Facts f k u

  abbrev U : List Claim → Type 0
  U = Used f k u

  abbrev P' : Expr Placed → Type 0
  P' e = (r r' : List Use) → map used (Or.notes Placed e) ++ r ≡ uses bound cases e ++ r' → F (claims defs bound e) (reading_of e) × (r ≡ r')

  abbrev Q : Form Placed → Type 0
  Q x = (n : Placed) (r r' : List Use) → used n ∷ (map used (Or.notes_form Placed x) ++ r) ≡ uses_in bound cases x ++ r' → F (form_claims defs bound x) (form_reading x n) × (r ≡ r')

  abbrev With : Type 0
  With = (x : Form Placed) × Q x

  abbrev With' : Type 0
  With' = (e : Expr Placed) × P' e

  abbrev tops : Form-F Placed With With' → Form-F Placed (Form Placed) (Expr Placed)
  tops = map-Form Placed With With' (Form Placed) (Expr Placed) (λ p. p.0) (λ p. p.0)

  abbrev exprs : List With' → List (Expr Placed)
  exprs = map {A = With'} {B = Expr Placed} (λ p. p.0)

  abbrev choices : List (Case × With') → List (Case × Expr Placed)
  choices = map {A = Case × With'} {B = Case × Expr Placed} (λ c. (c.0, c.1.0))

  -- the parts of a list

  -- they are such that these are their claims and readings
  record Parts (es : List (Expr Placed)) : Type 0 where
    pub list : List (Part f k u)
    pub claims_are : claims_in f k u list ≡ map (claims defs bound) es
    pub readings_are : readings_in f k u list ≡ map reading_of es

  more_parts : (e : Expr Placed) (es : List (Expr Placed)) → F (claims defs bound e) (reading_of e) → Parts es → Parts (e ∷ es)
  more_parts e es h ps = record {
    list = (claims defs bound e, reading_of e, h) ∷ ps.list;
    claims_are = ap (λ z. claims defs bound e ∷ z) ps.claims_are;
    readings_are = ap (λ z. reading_of e ∷ z) ps.readings_are;
  }

  parts : (ps : List With') (r r' : List Use) → map used (Or.joined (map (Or.notes Placed) (exprs ps))) ++ r ≡ joined_uses (map (uses bound cases) (exprs ps)) ++ r' → Parts (exprs ps) × (r ≡ r')
  parts [] r r' e = (record { list = []; claims_are = refl; readings_are = refl }, e)
  parts (p ∷ ps) r r' e =
      let ns = Or.joined (map (Or.notes Placed) (exprs ps)) in
      let us = joined_uses (map (uses bound cases) (exprs ps)) in
      let h = p.1 (map used ns ++ r) (us ++ r') (regroup used (Or.notes Placed p.0) ns (uses bound cases p.0) us r r' e) in
      let t = parts ps r r' h.1 in
      (more_parts p.0 (exprs ps) h.0 t.0, t.1)

  abbrev note_choices : List (Case × Expr Placed) → List (Case × List Placed)
  note_choices = map {A = Case × Expr Placed} {B = Case × List Placed} (λ c. (c.0, Or.notes Placed c.1))

  abbrev use_choices : List (Case × Expr Placed) → List (Case × List Use)
  use_choices = map {A = Case × Expr Placed} {B = Case × List Use} (λ c. (c.0, uses bound cases c.1))

  abbrev claim_choices : List (Case × Expr Placed) → List (Case × Claims)
  claim_choices = map {A = Case × Expr Placed} {B = Case × Claims} (λ c. (c.0, claims defs bound c.1))

  abbrev reading_choices : List (Case × Expr Placed) → List (Case × Reading ℕ)
  reading_choices = map {A = Case × Expr Placed} {B = Case × Reading ℕ} (λ c. (c.0, reading_of c.1))

  abbrev Choices : List (Case × Expr Placed) → Type 0
  Choices = Each (λ (c : Case × Expr Placed). F (claims defs bound c.1) (reading_of c.1))

  choice_parts : (ps : List (Case × With')) (r r' : List Use) → map used (Or.choices_joined (note_choices (choices ps))) ++ r ≡ branch_uses (use_choices (choices ps)) ++ r' → Choices (choices ps) × (r ≡ r')
  choice_parts [] r r' e = (tt, e)
  choice_parts (p ∷ ps) r r' e =
      let ns = Or.choices_joined (note_choices (choices ps)) in
      let us = branch_uses (use_choices (choices ps)) in
      let h = p.1.1 (map used ns ++ r) (us ++ r') (regroup used (Or.notes Placed p.1.0) ns (uses bound cases p.1.0) us r r' e) in
      let t = choice_parts ps r r' h.1 in
      ((h.0, t.0), t.1)

  -- what is asked of them

  abbrev part_of : (e : Expr Placed) → F (claims defs bound e) (reading_of e) → Part f k u
  part_of e h = (claims defs bound e, reading_of e, h)

  as_stream : (e : Expr Placed) → F (claims defs bound e) (reading_of e) → U (claims defs bound e stream) → Forces f k u (reading_of e).stream
  as_stream e h c = (four_at f k u (part_of e h) stream refl c).0

  as_streams : (es : List (Expr Placed)) → Parts es → U (all_at stream (map (claims defs bound) es)) → Forces f k u (streams (map reading_of es))
  as_streams es ps h = subst (λ z. Forces f k u (streams z)) ps.readings_are (streams_forced f k u ps.list (subst (λ z. U (all_at stream z)) (sym ps.claims_are) h))

  as_branches : (o : Option ℕ) (cs : List (Case × Expr Placed)) → Choices cs → U (all_branches (claim_choices cs)) → Forces f k u (ex.branches bound_of place_of sigs case_type marks signals type_of o (reading_choices cs))
  as_branches o [] h c = absurd (cc)
  as_branches o (x ∷ cs) h c =
      let first : Demand ℕ = condition o (ex.type_of_case bound_of place_of sigs case_type marks signals type_of x.0) [] in
      let later : List (Demand ℕ) = ex.branches bound_of place_of sigs case_type marks signals type_of o (reading_choices cs) in
      either
      (λ a. forces_left f k u (first ∷ (reading_of x.1).stream) later (forces_after f k u first (reading_of x.1).stream (as_stream x.1 h.0 a)))
      (λ a. forces_right f k u (first ∷ (reading_of x.1).stream) later (as_branches o cs h.1 a))
      (split f k u (claims defs bound x.1 stream) (all_branches (claim_choices cs)) c)

  as_two : (a b : Expr Placed) → F (claims defs bound a) (reading_of a) → F (claims defs bound b) (reading_of b) → U (claims defs bound a stream ++ claims defs bound b stream)
      → Forces f k u ((reading_of a).stream ++ (reading_of b).stream)
  as_two a b ha hb c = either
      (λ x. forces_left f k u (reading_of a).stream (reading_of b).stream (as_stream a ha x))
      (λ x. forces_right f k u (reading_of a).stream (reading_of b).stream (as_stream b hb x))
      (split f k u (claims defs bound a stream) (claims defs bound b stream) c)

  -- a name that is no function here
  no_use : (x : ℕ) (s : Stand) → as_function s ≡ false → function_use k (claim_of bound x s) ≡ false
  no_use x s e = ap (λ z. means_param k (bound x) && z) e ∙ and_false (means_param k (bound x))

  all_four : (t : ℕ) (ds : List (Demand ℕ)) (cs : Claims) → ((s : Stand) → U (cs s) → Forces f k u ds) → F cs (reading t ds)
  all_four t ds cs h s c = inl (four f k u t ds (h s c))

  -- names

  use_fact : (n : Placed) (x : ℕ) → bound_of n ≡ bound x → F (λ s. claim_of bound x s ∷ []) (ex.use_of bound_of place_of sigs case_type marks signals type_of (place_of n) (bound_of n))
  use_fact n x e s c =
      let both : (means_param k (bound x) ≡ true) × (as_function s ≡ true) = either (λ h. and_parts (means_param k (bound x)) (as_function s) h) (λ h. absurd (cc)) (or_cases (means_param k (bound x) && as_function s) false c) in
      let is : bound_of n ≡ binder.Param k = e ∙ means_is k (bound x) both.0 in
      let at_name : Same f k u (ex.use_of bound_of place_of sigs case_type marks signals type_of (place_of n) (binder.Param k)) =
      subst (λ o. Same f k u (name_reading (place_of n) (ex.is_functional (marks k)) (ex.is_signal_mark (marks k)) o)) (sym known) (λ m. m.0) in
      inr (both.1, subst (λ z. Same f k u (ex.use_of bound_of place_of sigs case_type marks signals type_of (place_of n) z)) (sym is) at_name)

  -- calls

  abbrev call : ℕ → Binder → Bool → List (Part f k u) → Option (Part f k u) → Reading ℕ
  call t z run ps o = ex.head_of bound_of place_of sigs case_type marks signals type_of t z run (readings_in f k u ps) (reading_if f k u o)

  call_def : (t : ℕ) (d : Option Earlier) (sig : Option Sig) → SameHead d sig → (run again : Bool) (ps : List (Part f k u)) (o : Option (Part f k u)) (s : Stand)
      → U (C.call_claims (head_def d) run again (claims_in f k u ps) s ++ if_any (claims_if f k u o)) → Four f k u (call_of t sig run (readings_in f k u ps) (reading_if f k u o))
  call_def t None None g run again ps o s c = never f k u t
  call_def t (Some d) (Some sig) g run again ps o s c = def_forced f k u t d sig run again ps o s g.0 g.1 c
  call_def t None (Some sig) g run again ps o s c = absurd g
  call_def t (Some d) None g run again ps o s c = absurd g

  call_rest : (t : ℕ) (z : Binder) (run again : Bool) (ps : List (Part f k u)) (o : Option (Part f k u)) (s : Stand)
      → U (C.call_claims (head_by defs z) run again (claims_in f k u ps) s ++ if_any (claims_if f k u o)) → Four f k u (call t z run ps o)
  call_rest t (binder.Def j) run again ps o s c = call_def t (slice_get defs j) (slice_get sigs j) (heads j) run again ps o s c
  call_rest t (binder.Param j) run again ps o s c = application_forced f k u t (type_of (binder.Param j)) run again ps o s c
  call_rest t (binder.Var j) run again ps o s c = never f k u t
  call_rest t binder.Nothing run again ps o s c = never f k u t
  call_rest t (binder.Case e j) run again ps o s c = never f k u t

  call_head : (t : ℕ) (z : Binder) (run : Bool) (ps : List (Part f k u)) (o : Option (Part f k u)) → z ≡ binder.Param k → Four f k u (call t z run ps o)
  call_head t z run ps o e = subst (λ z. Four f k u (call t z run ps o)) (sym e)
      (subst (λ v. Four f k u (application t v run (readings_in f k u ps) (reading_if f k u o))) (sym known) (head_forced f k u t run (readings_in f k u ps) (reading_if f k u o)))

  call_fact : (t : ℕ) (z : Binder) (x : ℕ) (run again : Bool) (ps : List (Part f k u)) (o : Option (Part f k u)) → z ≡ bound x
      → F (λ s. claim_of bound x (applied (applied_by run)) ∷ C.call_claims (head_by defs (bound x)) run again (claims_in f k u ps) s ++ if_any (claims_if f k u o)) (call t z run ps o)
  call_fact t z x run again ps o e s c = inl (either
      (λ h. call_head t z run ps o (e ∙ means_is k (bound x) (and_parts (means_param k (bound x)) true h).0))
      (λ h. subst (λ z. Four f k u (call t z run ps o)) (sym e) (call_rest t (bound x) run again ps o s h))
      (or_cases (means_param k (bound x) && true) (list_any (function_use k) (C.call_claims (head_by defs (bound x)) run again (claims_in f k u ps) s ++ if_any (claims_if f k u o))) c))

  -- the call's parts are those of expressions
  call_none : (n : Placed) (run : Bool) (x : ℕ) (es : List (Expr Placed)) → Parts es → bound_of n ≡ bound x
      → F (λ s. claim_of bound x (applied (applied_by run)) ∷ C.call_claims (head_by defs (bound x)) run false (map (claims defs bound) es) s ++ if_any None)
      (ex.head_of bound_of place_of sigs case_type marks signals type_of (place_of n) (bound_of n) run (map reading_of es) None)
  call_none n run x es ps e = subst (λ (z : Type 0). z)
      (λ i. F (λ s. claim_of bound x (applied (applied_by run)) ∷ C.call_claims (head_by defs (bound x)) run false (ps.claims_are i) s ++ if_any None)
      (ex.head_of bound_of place_of sigs case_type marks signals type_of (place_of n) (bound_of n) run (ps.readings_are i) None))
      (call_fact (place_of n) (bound_of n) x run false ps.list None e)

  call_some : (n : Placed) (run : Bool) (x : ℕ) (es : List (Expr Placed)) (a : Expr Placed) → Parts es → F (claims defs bound a) (reading_of a) → bound_of n ≡ bound x
      → F (λ s. claim_of bound x (applied (applied_by run)) ∷ C.call_claims (head_by defs (bound x)) run true (map (claims defs bound) es) s ++ if_any (Some (claims defs bound a)))
      (ex.head_of bound_of place_of sigs case_type marks signals type_of (place_of n) (bound_of n) run (map reading_of es) (Some (reading_of a)))
  call_some n run x es a ps h e = subst (λ (z : Type 0). z)
      (λ i. F (λ s. claim_of bound x (applied (applied_by run)) ∷ C.call_claims (head_by defs (bound x)) run true (ps.claims_are i) s ++ if_any (Some (claims defs bound a)))
      (ex.head_of bound_of place_of sigs case_type marks signals type_of (place_of n) (bound_of n) run (ps.readings_are i) (Some (reading_of a))))
      (call_fact (place_of n) (bound_of n) x run true ps.list (Some (part_of a h)) e)

  case_first : (c : Case) (cs : List Claim) → U (case_claims c ++ cs) → U cs
  case_first case.True cs h = h
  case_first case.False cs h = h
  case_first (case.Of x) cs h = h

  -- a layer

  abbrev Goal : Form-F Placed With With' → Type 0
  Goal y = (n : Placed) (r r' : List Use)
      → used n ∷ (map used (Or.form_notes Placed (map-Form Placed (Form Placed) (Expr Placed) (List Placed) (List Placed) (Or.notes_form Placed) (Or.notes Placed) (tops y))) ++ r)
      ≡ ustep (map-Form Placed (Form Placed) (Expr Placed) (List Use) (List Use) (uses_in bound cases) (uses bound cases) (tops y)) ++ r'
      → F (cstep (map-Form Placed (Form Placed) (Expr Placed) Claims Claims (form_claims defs bound) (claims defs bound) (tops y)))
      (step (map-Form Placed (Form Placed) (Expr Placed) (Placed → Reading ℕ) (Reading ℕ) form_reading reading_of (tops y)) n) × (r ≡ r')

  -- the note is of the binder of the name
  note_is : (n : Placed) (z : Binder) (xs ys : List Use) → used n ∷ xs ≡ use_of z ∷ ys → bound_of n ≡ z
  note_is n z xs ys e = ap (λ l. (first_or (used n) l).bound) e

  layer : (y : Form-F Placed With With') → Goal y
  layer (Form-F.Leaf l) n r r' e = (all_four (place_of n) (Fits ((place_of n, literal_type l) ∷ []) ∷ []) proper (λ s c. absurd (proper_none f k u s c)), ap rest e)
  layer (Form-F.Case x) n r r' e =
      (all_four (place_of n) (ex.constructor_of bound_of place_of sigs case_type marks signals type_of (place_of n) (bound_of n) ∷ []) (λ s. constructor x.0 ∷ proper s) (λ s c. absurd (proper_none f k u s c)), ap rest e)
  layer (Form-F.Var x) n r r' e = (use_fact n x.0 (note_is n (bound x.0) r r' e), ap rest e)
  layer (Form-F.Last x) n r r' e = (
    all_four (place_of n) (ex.last_of bound_of place_of sigs case_type marks signals type_of (place_of n) (type_of (bound_of n)) ∷ []) (λ s. timed ∷ claim_of bound x.0 before ∷ proper s)
        (λ s c. absurd (proper_none f k u s (skip f k u (claim_of bound x.0 before) (proper s) (no_use x.0 before refl) c))),
    ap rest e,
  )
  layer (Form-F.Asked x) n r r' e = (
    all_four (place_of n) (asked (place_of n) (type_of (bound_of n))) (λ s. timed ∷ claim_of bound x.0 questioned ∷ proper s)
        (λ s c. absurd (proper_none f k u s (skip f k u (claim_of bound x.0 questioned) (proper s) (no_use x.0 questioned refl) c))),
    ap rest e,
  )
  layer (Form-F.Op op ps) n r r' e =
      let h = parts ps r r' (ap rest e) in
      let rs : List (Reading ℕ) = map reading_of (exprs ps) in
      let first : Demand ℕ = Fits ((place_of n, result_type (signature_of op)) ∷ zip_fits rs (operand_types (signature_of op))) in
      let ds = first ∷ streams rs in (
        all_four (place_of n) (if length rs == length (operand_types (signature_of op)) then ds else Never ∷ []) (λ s. proper s ++ all_at stream (map (claims defs bound) (exprs ps)))
            (λ s c. forces_if f k u (length rs == length (operand_types (signature_of op))) ds (Never ∷ [])
            (forces_after f k u first (streams rs) (as_streams (exprs ps) h.0 (proper_first f k u s (all_at stream (map (claims defs bound) (exprs ps))) c))) (λ m d. absurd m.0)),
        h.1,
      )
  layer (Form-F.Tuple ps) n r r' e =
      let h = parts ps r r' (ap rest e) in
      let rs : List (Reading ℕ) = map reading_of (exprs ps) in
      let first : Demand ℕ = Fits ((place_of n, t.Tuple (vars_from 0 (length rs))) ∷ zip_fits rs (vars_from 0 (length rs))) in (
        all_four (place_of n) (first ∷ streams rs) (λ s. proper s ++ all_at stream (map (claims defs bound) (exprs ps)))
            (λ s c. forces_after f k u first (streams rs) (as_streams (exprs ps) h.0 (proper_first f k u s (all_at stream (map (claims defs bound) (exprs ps))) c))),
        h.1,
      )
  layer (Form-F.Pre p) n r r' e =
      let h = p.1 r r' (ap rest e) in
      let first : Demand ℕ = Fits ((place_of n, any) ∷ ((reading_of p.0).ty, any) ∷ []) in (
        all_four (place_of n) (first ∷ (reading_of p.0).stream) (λ s. timed ∷ proper s ++ claims defs bound p.0 stream)
            (λ s c. forces_after f k u first (reading_of p.0).stream (as_stream p.0 h.0 (proper_first f k u s (claims defs bound p.0 stream) c))),
        h.1,
      )
  layer (Form-F.Fby p q) n r r' e =
      let h = p.1 _ _ (regroup used (Or.notes Placed p.0) (Or.notes Placed q.0) (uses bound cases p.0) (uses bound cases q.0) r r' (ap rest e)) in
      let g = q.1 r r' h.1 in
      let first : Demand ℕ = Fits ((place_of n, any) ∷ ((reading_of p.0).ty, any) ∷ ((reading_of q.0).ty, any) ∷ []) in (
        all_four (place_of n) (first ∷ (reading_of p.0).stream ++ (reading_of q.0).stream) (λ s. timed ∷ proper s ++ (claims defs bound p.0 stream ++ claims defs bound q.0 stream))
            (λ s c. forces_after f k u first ((reading_of p.0).stream ++ (reading_of q.0).stream) (as_two p.0 q.0 h.0 g.0 (proper_first f k u s (claims defs bound p.0 stream ++ claims defs bound q.0 stream) c))),
        g.1,
      )
  layer (Form-F.Init p q) n r r' e =
      let h = p.1 _ _ (regroup used (Or.notes Placed p.0) (Or.notes Placed q.0) (uses bound cases p.0) (uses bound cases q.0) r r' (ap rest e)) in
      let g = q.1 r r' h.1 in
      let first : Demand ℕ = Fits ((place_of n, any) ∷ ((reading_of p.0).ty, any) ∷ ((reading_of q.0).ty, any) ∷ []) in (
        all_four (place_of n) (first ∷ (reading_of p.0).stream ++ (reading_of q.0).stream) (λ s. timed ∷ proper s ++ (claims defs bound p.0 stream ++ claims defs bound q.0 stream))
            (λ s c. forces_after f k u first ((reading_of p.0).stream ++ (reading_of q.0).stream) (as_two p.0 q.0 h.0 g.0 (proper_first f k u s (claims defs bound p.0 stream ++ claims defs bound q.0 stream) c))),
        g.1,
      )
  layer (Form-F.When p x c') n r r' e =
      let h = p.1 r r' (ap rest e) in
      let first : Demand ℕ = condition (type_of (bound_of n)) (ex.type_of_case bound_of place_of sigs case_type marks signals type_of c') ((place_of n, any) ∷ ((reading_of p.0).ty, any) ∷ []) in
      let cs : Claims = λ s. proper s ++ claims defs bound p.0 stream in (
        all_four (place_of n) (first ∷ (reading_of p.0).stream) (λ s. timed ∷ claim_of bound x.0 (at mark.Clock) ∷ case_claims c' ++ cs s)
            (λ s c. forces_after f k u first (reading_of p.0).stream (as_stream p.0 h.0 (proper_first f k u s (claims defs bound p.0 stream)
            (case_first c' (cs s) (skip f k u (claim_of bound x.0 (at mark.Clock)) (case_claims c' ++ cs s) (no_use x.0 (at mark.Clock) refl) c))))),
        h.1,
      )
  layer (Form-F.Merge x ps) n r r' e =
      let h = choice_parts ps r r' (ap rest e) in
      let first : Demand ℕ = Fits ((place_of n, any) ∷ ex.branch_types bound_of place_of sigs case_type marks signals type_of (reading_choices (choices ps))) in
      let ds : List (Demand ℕ) = ex.branches bound_of place_of sigs case_type marks signals type_of (type_of (bound_of n)) (reading_choices (choices ps)) in
      let bs : List (Case × Claims) = claim_choices (choices ps) in (
        all_four (place_of n) (first ∷ ds) (λ s. merge_claims (claim_of bound x.0 (at mark.Clock)) (C.cases_of bs) bs s)
            (λ s c. forces_after f k u first ds (as_branches (type_of (bound_of n)) (choices ps) h.0 (proper_first f k u s (all_branches bs)
            (skip f k u (claim_of bound x.0 (at mark.Clock)) (branches (C.cases_of bs) ∷ proper s ++ all_branches bs) (no_use x.0 (at mark.Clock) refl) c)))),
        h.1,
      )
  layer (Form-F.Call run x ps None) n r r' e =
      let h = parts ps _ _ (regroup used (Or.joined (map (Or.notes Placed) (exprs ps))) [] (joined_uses (map (uses bound cases) (exprs ps))) [] r r' (ap rest e)) in
      (call_none n run x.0 (exprs ps) h.0 (ap (λ l. (first_or (used n) l).bound) e), h.1)
  layer (Form-F.Call run x ps (Some p)) n r r' e =
      let h = parts ps _ _ (regroup used (Or.joined (map (Or.notes Placed) (exprs ps))) (Or.notes Placed p.0) (joined_uses (map (uses bound cases) (exprs ps))) (uses bound cases p.0) r r' (ap rest e)) in
      let g = p.1 r r' h.1 in
      (call_some n run x.0 (exprs ps) p.0 h.0 g.0 (ap (λ l. (first_or (used n) l).bound) e), g.1)

  at_form : (y : Form-F Placed With With') → Q (roll-Form Placed (tops y))
  at_form y n r r' e =
      let en = fold-roll-Form Placed (List Placed) (List Placed) (Or.form_notes Placed) (Or.expr_notes Placed) (tops y) in
      let eu = fold-roll-Form Placed (List Use) (List Use) ustep uestep (tops y) in
      let ec = fold-roll-Form Placed Claims Claims cstep cestep (tops y) in
      let er = fold-roll-Form Placed (Placed → Reading ℕ) (Reading ℕ) step estep (tops y) in
      subst (λ (z : Type 0). z) (λ i. F (sym ec i) (sym er i n) × (r ≡ r'))
      (layer y n r r' ((λ i. used n ∷ (map used (sym en i) ++ r)) ∙ e ∙ (λ i. eu i ++ r')))

  at_expr : (n : Placed) (p : With) → P' (roll-Expr Placed (record { note = n; form = p.0 }))
  at_expr n p r r' e =
      let en = fold-roll-Expr Placed (List Placed) (List Placed) (Or.form_notes Placed) (Or.expr_notes Placed) (record { note = n; form = p.0 }) in
      let eu = fold-roll-Expr Placed (List Use) (List Use) ustep uestep (record { note = n; form = p.0 }) in
      let ec = fold-roll-Expr Placed Claims Claims cstep cestep (record { note = n; form = p.0 }) in
      let er = fold-roll-Expr Placed (Placed → Reading ℕ) (Reading ℕ) step estep (record { note = n; form = p.0 }) in
      subst (λ (z : Type 0). z) (λ i. F (sym ec i) (sym er i) × (r ≡ r'))
      (p.1 n r r' ((λ i. map used (sym en i) ++ r) ∙ e ∙ (λ i. eu i ++ r')))

  facts : (e : Expr Placed) → P' e
  facts = ind-Expr Placed Q P'
      (λ x y from. subst (λ z. Q (roll-Form Placed z)) from (at_form y))
      (λ x y from. subst (λ z. P' (roll-Expr Placed z)) from (at_expr y.note y.form))

  end_nil : (xs : List Use) → xs ++ [] ≡ xs
  end_nil [] = refl
  end_nil (x ∷ xs) = ap (λ z. x ∷ z) (end_nil xs)

  -- of an expression whose notes are the binders of its names
  pub expr_facts : (e : Expr Placed) → map (λ (n : Placed). n.0) (Or.notes Placed e) ≡ uses bound cases e → Facts f k u (claims defs bound e) (reading_of e)
  expr_facts e h = (facts e [] [] (end_nil (map used (Or.notes Placed e)) ∙ h ∙ sym (end_nil (uses bound cases e)))).0
