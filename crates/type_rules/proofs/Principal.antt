-- Inference: a most general unifier gives a principal annotation of a definition.
use Rattle.std.specs.Prelude.{◌≡◌, refl, ℕ, zero, suc, ◌+◌, ◌<◌, ◌≤◌, ◌&&◌, Bool, true, false, List, [], ◌∷◌, ◌++◌, map, length, slice_get, Option, Some, None, if◌then◌else◌, nat_lt, unwrap_or, ◌-◌}
use Rattle.std.proofs.Common.{ap, ap₂, sym, ◌∙◌, subst, arith, inl, inr}
use Rattle.ls_ast.specs.declared.tree.Mark.{Mark}
use Rattle.ls_ast.specs.declared.tree.Mark.TheVariants as mark
use Rattle.std.proofs.lemmas.Bool.{ltb-true, cases_lt}
use Rattle.ls_ast.specs.declared.tree.Pat.{Pat, ind-Pat, roll-Pat, fold-roll-Pat, map-Pat}
use Rattle.ls_ast.specs.declared.tree.Pat.TheOpen.{Pat-F}
use Rattle.ls_ast.specs.declared.tree.Equation.{Equation}
use Rattle.ls_ast.specs.declared.tree.BodyOf.{BodyOf}
use Rattle.ls_terms.specs.declared.types.TypeTerm.{TypeTerm, roll-TypeTerm, fold-roll-TypeTerm}
use Rattle.ls_terms.specs.declared.types.TypeTerm.TheOpen.{TypeTerm-F}
use Rattle.ls_terms.specs.declared.types.TypeTerm.TheVariants as t
use Rattle.ls_terms.specs.Types.{apply, size, sum, kids_at}
use Rattle.ls_sig.specs.declared.binder.Binder.{Binder}
use Rattle.ls_sig.specs.declared.binder.Binder.TheVariants as b
use Rattle.ls_sig.specs.declared.binder.TypeNote.{TypeNote}
use Rattle.ls_places.specs.declared.places.Variable.{Variable}
use Rattle.ls_sig.specs.declared.sigs.Sig.{Sig}
use Rattle.type_rules.specs.Schemes.{every, is_data}
use Rattle.tree_notes.specs.Each.{Each}
use Rattle.type_rules.proofs.Agreeing.{each_both}
use Rattle.type_rules.specs.declared.demand.Demand.{Demand}
use Rattle.type_rules.specs.declared.demand.Demand.TheVariants.{Fits}
use Rattle.type_rules.specs.Demands.{map_fits, map_demands, Holds, Meets, widths, pairs, Unify, solved, AreData}
use Rattle.type_rules.proofs.Solving.{at_var, read_off, read_unifies, read_small, solved_meet, instance_of, must_be_data, by_data}
use Rattle.type_rules.specs.Expressions.{any, Reading, is_functional}
use Rattle.type_rules.proofs.Placing.{Alike, first_data, first_not, meets_left, meets_right, var_data, unit_data, signal_is, tuple_of_data}
use Rattle.type_rules.specs.Places.{body_places}
use Rattle.type_rules.proofs.PlacingBodies.{body_alike}
use Rattle.type_rules.specs.Bodies as B
use Rattle.type_rules.specs.Bodies.{Shape, shape_of, schemes_of, fit_of, miss_of, Asks, at_top}
use Rattle.tree_notes.proofs.Refold.{noted}
use Rattle.tree_notes.specs.Noted.{in_equation}
use Rattle.type_rules.proofs.Noted.{noted_is}
use Rattle.type_rules.specs.Numbers.{Placed, bound_of, place_of}
use Rattle.type_rules.specs.Principal.{Among, note_places, typed_by, asks_of, annotated, names_here, marks_here, types_here, IsPlace, IsAnnotation, AreFunctions, IsPrincipal}
use Rattle.type_rules.proofs.Natural.{map_option, if_same, demands_append, natural}
use Rattle.type_rules.proofs.NaturalBodies.{all_asks, natural_equation, ask_all_nat, fit_nat, miss_nat, fits_append}
use Rattle.type_rules.specs.Definitions.{Definition, with_notes, param_names, name_marks, mark_in, names_type, name_asks, variable_asks, params_named, vars_named, definition_asks, Obeys}

module _ {N M X Y : Type 0} (f : X → Y) (g : N → M) (bound : M → Binder) (ty : N → X) (ty' : M → Y) (same : (n : N) → ty' (g n) ≡ f (ty n))
    (sigs : List Sig) (case_type : ℕ → Option TypeTerm) (params : List ℕ) (marks : ℕ → Mark) (vs : List Variable) (type_of : Binder → Option X) where
  abbrev type_of' : Binder → Option Y
  type_of' x = map_option f (type_of x)

  abbrev bound' : N → Binder
  bound' n = bound (g n)

  same_as_nat : (v : Option X) (u : X) → B.same_as M Y bound ty' sigs case_type params marks vs type_of' (map_option f v) (f u) ≡ map_demands f (B.same_as N X bound' ty sigs case_type params marks vs type_of v u)
  same_as_nat None u = refl
  same_as_nat (Some v) u = refl

  own_parts_nat : (k : ℕ) (ps : List (ℕ × ℕ)) → B.own_parts M Y bound ty' sigs case_type params marks vs type_of' k ps ≡ map_fits f (B.own_parts N X bound' ty sigs case_type params marks vs type_of k ps)
  own_parts_nat k [] = refl
  own_parts_nat k (p ∷ ps) = ap₂ (λ us ws. us ++ ws) (fit_nat f (type_of (b.Param k)) p.1) (own_parts_nat (suc k) ps) ∙ sym (fits_append f (fit_of (type_of (b.Param k)) p.1) _)

  own_missing_nat : (k : ℕ) (ps : List (ℕ × ℕ)) → B.own_missing M Y bound ty' sigs case_type params marks vs type_of' k ps ≡ map_demands f (B.own_missing N X bound' ty sigs case_type params marks vs type_of k ps)
  own_missing_nat k [] = refl
  own_missing_nat k (p ∷ ps) = ap₂ (λ us ws. us ++ ws) (miss_nat f (type_of (b.Param k))) (own_missing_nat (suc k) ps) ∙ sym (demands_append f (miss_of (type_of (b.Param k))) _)

  alone_nat : (o : Option ℕ) (ds : List (Demand Y)) (es : List (Demand X)) → ds ≡ map_demands f es
      → B.only_alone M Y bound ty' sigs case_type params marks vs type_of' o ds ≡ map_demands f (B.only_alone N X bound' ty sigs case_type params marks vs type_of o es)
  alone_nat None ds es e = refl
  alone_nat (Some x) ds es e = e

  data_nat : (u : X) (k : ℕ) (p : Shape)
      → Fits ((f u, p.scheme 0) ∷ B.own_parts M Y bound ty' sigs case_type params marks vs type_of' k (p.names 0)) ∷ B.own_missing M Y bound ty' sigs case_type params marks vs type_of' k (p.names 0)
      ≡ map_demands f (Fits ((u, p.scheme 0) ∷ B.own_parts N X bound' ty sigs case_type params marks vs type_of k (p.names 0)) ∷ B.own_missing N X bound' ty sigs case_type params marks vs type_of k (p.names 0))
  data_nat u k p = ap₂ (λ ps ds. Fits ((f u, p.scheme 0) ∷ ps) ∷ ds) (own_parts_nat k (p.names 0)) (own_missing_nat k (p.names 0))

  param_nat : (m : Mark) (u : X) (k : ℕ) (p : Shape) → B.param_asks M Y bound ty' sigs case_type params marks vs type_of' m (f u) k p ≡ map_demands f (B.param_asks N X bound' ty sigs case_type params marks vs type_of m u k p)
  param_nat mark.Comb u k p = alone_nat p.alone _ _ (same_as_nat (type_of (b.Param k)) u)
  param_nat mark.Seq u k p = alone_nat p.alone _ _ (same_as_nat (type_of (b.Param k)) u)
  param_nat mark.Signal u k p = alone_nat p.alone _ _ (ap (λ ds. Fits ((f u, t.Signal any) ∷ []) ∷ ds) (same_as_nat (type_of (b.Param k)) u))
  param_nat mark.Data u k p = data_nat u k p
  param_nat mark.Clock u k p = data_nat u k p
  param_nat mark.Unknown u k p = data_nat u k p

  params_nat : (ps : List Pat) (ms : List Mark) (ns : List N) (k : ℕ)
      → B.params_ask M Y bound ty' sigs case_type params marks vs type_of' ps ms (map g ns) k ≡ map_demands f (B.params_ask N X bound' ty sigs case_type params marks vs type_of ps ms ns k)
  params_nat [] [] [] k = refl
  params_nat [] [] (n ∷ ns) k = refl
  params_nat [] (m ∷ ms) ns k = refl
  params_nat (p ∷ ps) [] ns k = refl
  params_nat (p ∷ ps) (m ∷ ms) [] k = refl
  params_nat (p ∷ ps) (m ∷ ms) (n ∷ ns) k =
      ap₂ (λ us ws. us ++ ws) (ap (λ u. B.param_asks M Y bound ty' sigs case_type params marks vs type_of' m u k (shape_of p)) (same n) ∙ param_nat m (ty n) k (shape_of p))
      (params_nat ps ms ns (k + length ((shape_of p).names 0)))
      ∙ sym (demands_append f (B.param_asks N X bound' ty sigs case_type params marks vs type_of m (ty n) k (shape_of p)) _)

  asks_nat : (qs : List (Equation N)) → map (B.asks M Y bound ty' sigs case_type params marks vs type_of') (map (in_equation N M g) qs) ≡ all_asks f g (map (B.asks N X bound' ty sigs case_type params marks vs type_of) qs)
  asks_nat [] = refl
  asks_nat (q ∷ qs) = ap₂ (λ a rest. a ∷ rest) (ap (B.asks M Y bound ty' sigs case_type params marks vs type_of') (sym (noted_is g q)) ∙ natural_equation f g bound ty ty' same sigs case_type params marks vs type_of q) (asks_nat qs)

  body_nat : (first : ℕ) (body : BodyOf N)
      → B.body_asks M Y bound ty' sigs case_type params marks vs type_of' first (record { result = noted g body.result; eqs = map (in_equation N M g) body.eqs })
      ≡ map_demands f (B.body_asks N X bound' ty sigs case_type params marks vs type_of first body)
  body_nat first body =
      ap₂ (λ us ws. us ++ ws)
      (ap (λ (r : Reading Y). r.body) (natural f g bound ty ty' same sigs case_type marks (λ k. B.is_signal_at M Y bound ty' sigs case_type params marks vs type_of' (slice_get vs k)) type_of body.result))
      (ap (λ z. B.ask_all M Y z at_top first) (asks_nat body.eqs) ∙ ask_all_nat f g (map (B.asks N X bound' ty sigs case_type params marks vs type_of) body.eqs) at_top first)
      ∙ sym (demands_append f (B.said N X bound' ty sigs case_type params marks vs type_of body.result).body _)

each_among : (P : ℕ → Type 0) (xs : List ℕ) (k : ℕ) → Each P xs → Among k xs → P k
each_among P [] k a m = absurd m
each_among P (x ∷ xs) k a (inl e) = subst P e a.0
each_among P (x ∷ xs) k a (inr m) = each_among P xs k a.1 m

-- ---- the scheme of a pattern is data

abbrev IsScheme : Pat → Type 0
IsScheme p = (n : ℕ) → is_data ((shape_of p).scheme n) ≡ true

abbrev WithScheme : Type 0
WithScheme = (p : Pat) × IsScheme p

schemes_data : (ps : List WithScheme) (n : ℕ) → every (map is_data (schemes_of (map shape_of (map (λ p. p.0) ps)) n)) ≡ true
schemes_data [] n = refl
schemes_data (p ∷ ps) n = ap₂ (λ u v. u && v) (p.1 n) (schemes_data ps (n + (shape_of p.0).leaves))

scheme_layer : (y : Pat-F WithScheme) (n : ℕ) → is_data ((B.shape_step (map-Pat Pat Shape shape_of (map-Pat WithScheme Pat (λ p. p.0) y))).scheme n) ≡ true
scheme_layer Pat-F.Any n = var_data n
scheme_layer Pat-F.Unit n = unit_data
scheme_layer (Pat-F.Var x) n = var_data n
scheme_layer (Pat-F.Tuple ps) n = tuple_of_data (schemes_of (map shape_of (map (λ p. p.0) ps)) n) (schemes_data ps n)

scheme_data : (p : Pat) → IsScheme p
scheme_data = ind-Pat IsScheme (λ x y from. subst (λ z. IsScheme (roll-Pat z)) from (λ n.
    ap (λ (r : Shape). is_data (r.scheme n)) (fold-roll-Pat Shape B.shape_step (map-Pat WithScheme Pat (λ p. p.0) y)) ∙ scheme_layer y n))

module _ (sigs : List Sig) (case_type : ℕ → Option TypeTerm) where
  module _ {X Y : Type 0} (f : X → Y) (np nv : ℕ) (at : ℕ → X) where
    names_nat : (x : Binder) → names_type sigs case_type np nv (λ k. f (at k)) x ≡ map_option f (names_type sigs case_type np nv at x)
    names_nat (b.Param k) = sym (if_same (map_option f) (nat_lt k np) (Some (at k)) None)
    names_nat (b.Var k) = sym (if_same (map_option f) (nat_lt k nv) (Some (at (np + k))) None)
    names_nat b.Nothing = refl
    names_nat (b.Def k) = refl
    names_nat (b.Case e k) = refl

    name_asks_nat : (m : Mark) (u : X) → name_asks sigs case_type m (f u) ≡ map_demands f (name_asks sigs case_type m u)
    name_asks_nat mark.Comb u = refl
    name_asks_nat mark.Seq u = refl
    name_asks_nat mark.Signal u = refl
    name_asks_nat mark.Data u = refl
    name_asks_nat mark.Clock u = refl
    name_asks_nat mark.Unknown u = refl

    variable_asks_nat : (s : Bool) (u : X) → variable_asks sigs case_type s (f u) ≡ map_demands f (variable_asks sigs case_type s u)
    variable_asks_nat true u = refl
    variable_asks_nat false u = refl

    params_named_nat : (marks : ℕ → Mark) (xs : List ℕ) (k : ℕ) → params_named sigs case_type marks (λ k. f (at k)) xs k ≡ map_demands f (params_named sigs case_type marks at xs k)
    params_named_nat marks [] k = refl
    params_named_nat marks (x ∷ xs) k = ap₂ (λ us ws. us ++ ws) (name_asks_nat (marks k) (at k)) (params_named_nat marks xs (suc k)) ∙ sym (demands_append f (name_asks sigs case_type (marks k) (at k)) _)

    vars_named_nat : (vs : List Variable) (k : ℕ) → vars_named sigs case_type (λ k. f (at k)) vs k ≡ map_demands f (vars_named sigs case_type at vs k)
    vars_named_nat [] k = refl
    vars_named_nat (v ∷ vs) k = ap₂ (λ us ws. us ++ ws) (variable_asks_nat v.signal (at k)) (vars_named_nat vs (suc k)) ∙ sym (demands_append f (variable_asks sigs case_type v.signal (at k)) _)

  -- a definition with other notes asks the same of the other types
  pub natural_definition : {N M X Y : Type 0} (f : X → Y) (g : N → M) (bound : M → Binder) (ty : N → X) (ty' : M → Y) (same : (n : N) → ty' (g n) ≡ f (ty n)) (vs : List Variable) (at : ℕ → X) (d : Definition N)
      → definition_asks sigs case_type bound ty' vs (λ k. f (at k)) (with_notes g d) ≡ map_demands f (definition_asks sigs case_type (λ n. bound (g n)) ty vs at d)
  natural_definition {N} {M} {X} {Y} f g bound ty ty' same vs at d =
      let names = param_names d.params in
      let marks = λ (k : ℕ). mark_in (slice_get (name_marks d.params d.marks) k) in
      let types = names_type sigs case_type (length names) (length vs) at in
      let moved : names_type sigs case_type (length names) (length vs) (λ k. f (at k)) ≡ (λ x. map_option f (types x)) = λ i x. names_nat f (length names) (length vs) at x i in
      let heads = params_named sigs case_type marks at names 0 ++ vars_named sigs case_type at vs (length names) in
      let ps = B.params_ask N X (λ n. bound (g n)) ty sigs case_type names marks vs types d.params d.marks d.notes 0 in
      ap (λ z. (params_named sigs case_type marks (λ k. f (at k)) names 0 ++ vars_named sigs case_type (λ k. f (at k)) vs (length names))
      ++ B.params_ask M Y bound ty' sigs case_type names marks vs z d.params d.marks (map g d.notes) 0
      ++ B.body_asks M Y bound ty' sigs case_type names marks vs z (length d.params) (with_notes g d).body) moved
      ∙ ap₂ (λ us ws. us ++ ws)
      (ap₂ (λ us ws. us ++ ws)
      (ap₂ (λ us ws. us ++ ws) (params_named_nat f (length names) (length vs) at marks names 0) (vars_named_nat f (length names) (length vs) at vs (length names))
      ∙ sym (demands_append f (params_named sigs case_type marks at names 0) (vars_named sigs case_type at vs (length names))))
      (params_nat f g bound ty ty' same sigs case_type names marks vs types d.params d.marks d.notes 0)
      ∙ sym (demands_append f heads ps))
      (body_nat f g bound ty ty' same sigs case_type names marks vs types (length d.params) d.body)
      ∙ sym (demands_append f (heads ++ ps) _)

  -- ---- a definition whose places are numbered: those of names first, then those of notes

  module _ (vs : List Variable) (d : Definition Placed) where
    abbrev asks : List (Demand ℕ)
    asks = asks_of sigs case_type vs d

    abbrev names : List ℕ
    names = names_here sigs case_type vs d

    abbrev marks : ℕ → Mark
    marks = marks_here sigs case_type vs d

    abbrev types : Binder → Option ℕ
    types = types_here sigs case_type vs d

    pub obeys_is : (f : ℕ → TypeTerm) → Obeys sigs case_type vs f (annotated sigs case_type vs d f) ≡ Meets f asks
    obeys_is f = ap (Each Holds)
        (natural_definition f (typed_by f) (λ (n : TypeNote). n.bound) place_of (λ n. n.ty) (λ n. refl) vs (λ k. k) d)

    -- ---- what is data in one annotation is data in the other

    module _ (functions : AreFunctions sigs case_type vs d) (f g : ℕ → TypeTerm) (mf : Meets f asks) (mg : Meets g asks) where
      abbrev heads : List (Demand ℕ)
      heads = params_named sigs case_type marks (λ k. k) names 0 ++ vars_named sigs case_type (λ k. k) vs (length names)

      abbrev firsts : List (Demand ℕ)
      firsts = B.params_ask Placed ℕ bound_of place_of sigs case_type names marks vs types d.params d.marks d.notes 0

      abbrev inside : List (Demand ℕ)
      inside = B.body_asks Placed ℕ bound_of place_of sigs case_type names marks vs types (length d.params) d.body

      named_at : (h : ℕ → TypeTerm) (xs : List ℕ) (k i : ℕ) → i < length xs → Meets h (params_named sigs case_type marks (λ k. k) xs k) → Meets h (name_asks sigs case_type (marks (k + i)) (k + i))
      named_at h [] k i l m = absurd (omega (arith, l))
      named_at h (x ∷ xs) k zero l m =
          let e : k ≡ k + 0 = omega arith in
          subst (λ j. Meets h (name_asks sigs case_type (marks j) j)) e (meets_left h (name_asks sigs case_type (marks k) k) (params_named sigs case_type marks (λ k. k) xs (suc k)) m)
      named_at h (x ∷ xs) k (suc i) l m =
          let e : suc k + i ≡ k + suc i = omega arith in
          subst (λ j. Meets h (name_asks sigs case_type (marks j) j)) e
          (named_at h xs (suc k) i (omega (arith, l)) (meets_right h (name_asks sigs case_type (marks k) k) (params_named sigs case_type marks (λ k. k) xs (suc k)) m))

      by_mark : (m : Mark) (k : ℕ) → (is_functional m ≡ true → is_data (f k) ≡ true → ⊥) → Meets f (name_asks sigs case_type m k) → Meets g (name_asks sigs case_type m k) → Alike f g k
      by_mark mark.Comb k n u w e = absurd (n refl e)
      by_mark mark.Seq k n u w e = absurd (n refl e)
      by_mark mark.Signal k n u w e = absurd (first_not f k (t.Signal any) [] (signal_is any) u.0 e)
      by_mark mark.Data k n u w e = first_data g k any [] (var_data 0) w.0
      by_mark mark.Clock k n u w e = first_data g k any [] (var_data 0) w.0
      by_mark mark.Unknown k n u w e = first_data g k any [] (var_data 0) w.0

      by_flag : (s : Bool) (k : ℕ) → Meets f (variable_asks sigs case_type s k) → Meets g (variable_asks sigs case_type s k) → Alike f g k
      by_flag true k u w e = absurd (first_not f k (t.Signal any) [] (signal_is any) u.0 e)
      by_flag false k u w e = first_data g k any [] (var_data 0) w.0

      var_at : (ws : List Variable) (k i : ℕ) → i < length ws → Meets f (vars_named sigs case_type (λ k. k) ws k) → Meets g (vars_named sigs case_type (λ k. k) ws k) → Alike f g (k + i)
      var_at [] k i l u w = absurd (omega (arith, l))
      var_at (v ∷ ws) k zero l u w =
          let e : k ≡ k + 0 = omega arith in
          subst (Alike f g) e (by_flag v.signal k (meets_left f (variable_asks sigs case_type v.signal k) (vars_named sigs case_type (λ k. k) ws (suc k)) u) (meets_left g (variable_asks sigs case_type v.signal k) (vars_named sigs case_type (λ k. k) ws (suc k)) w))
      var_at (v ∷ ws) k (suc i) l u w =
          let e : suc k + i ≡ k + suc i = omega arith in
          subst (Alike f g) e (var_at ws (suc k) i (omega (arith, l)) (meets_right f (variable_asks sigs case_type v.signal k) (vars_named sigs case_type (λ k. k) ws (suc k)) u)
          (meets_right g (variable_asks sigs case_type v.signal k) (vars_named sigs case_type (λ k. k) ws (suc k)) w))

      of_heads : (h : ℕ → TypeTerm) → Meets h asks → Meets h heads
      of_heads h m = meets_left h heads firsts (meets_left h (heads ++ firsts) inside m)

      param_alike : (k : ℕ) → k < length names → Alike f g k
      param_alike k l =
          let ps = params_named sigs case_type marks (λ k. k) names 0 in
          let ws = vars_named sigs case_type (λ k. k) vs (length names) in
          let z : 0 + k ≡ k = omega arith in
          let u = subst (λ j. Meets f (name_asks sigs case_type (marks j) j)) z (named_at f names 0 k l (meets_left f ps ws (of_heads f mf))) in
          let w = subst (λ j. Meets g (name_asks sigs case_type (marks j) j)) z (named_at g names 0 k l (meets_left g ps ws (of_heads g mg))) in
          by_mark (marks k) k (functions f mf k l) u w

      variable_alike : (i : ℕ) → i < length vs → Alike f g (length names + i)
      variable_alike i l =
          let ps = params_named sigs case_type marks (λ k. k) names 0 in
          let ws = vars_named sigs case_type (λ k. k) vs (length names) in
          var_at vs (length names) i l (meets_right f ps ws (of_heads f mf)) (meets_right g ps ws (of_heads g mg))

      some_is : (c : Bool) (k v : ℕ) → (if c then Some k else None) ≡ Some v → (c ≡ true) × (k ≡ v)
      some_is true k v e = (refl, cc)
      some_is false k v e = absurd (cc)

      placed : (x : Binder) (v : ℕ) → types x ≡ Some v → Alike f g v
      placed (b.Param k) v e = let r = some_is (nat_lt k (length names)) k v e in subst (Alike f g) r.1 (param_alike k (ltb-true k (length names) r.0))
      placed (b.Var k) v e = let r = some_is (nat_lt k (length vs)) (length names + k) v e in subst (Alike f g) r.1 (variable_alike k (ltb-true k (length vs) r.0))
      placed b.Nothing v e = absurd (cc)
      placed (b.Def k) v e = absurd (cc)
      placed (b.Case i k) v e = absurd (cc)

      same_alike : (o : Option ℕ) (u : ℕ) → ((v : ℕ) → o ≡ Some v → Alike f g v)
          → Meets f (B.same_as Placed ℕ bound_of place_of sigs case_type names marks vs types o u)
          → Meets g (B.same_as Placed ℕ bound_of place_of sigs case_type names marks vs types o u) → Alike f g u
      same_alike None u h m m' e = absurd m.0
      same_alike (Some v) u h m m' e = ap is_data (sym m'.0) ∙ h v refl (ap is_data m.0 ∙ e)

      note_alike : (mk : Mark) (u k : ℕ) (p : Pat)
          → Meets f (B.param_asks Placed ℕ bound_of place_of sigs case_type names marks vs types mk u k (shape_of p))
          → Meets g (B.param_asks Placed ℕ bound_of place_of sigs case_type names marks vs types mk u k (shape_of p)) → Alike f g u
      note_alike mark.Comb u k p m m' = alone_alike (shape_of p).alone m m'
        where
          alone_alike : (o : Option ℕ) → Meets f (B.only_alone Placed ℕ bound_of place_of sigs case_type names marks vs types o (B.same_as Placed ℕ bound_of place_of sigs case_type names marks vs types (types (b.Param k)) u))
              → Meets g (B.only_alone Placed ℕ bound_of place_of sigs case_type names marks vs types o (B.same_as Placed ℕ bound_of place_of sigs case_type names marks vs types (types (b.Param k)) u)) → Alike f g u
          alone_alike None m m' = absurd m.0
          alone_alike (Some x) m m' = same_alike (types (b.Param k)) u (placed (b.Param k)) m m'
      note_alike mark.Seq u k p m m' = alone_alike (shape_of p).alone m m'
        where
          alone_alike : (o : Option ℕ) → Meets f (B.only_alone Placed ℕ bound_of place_of sigs case_type names marks vs types o (B.same_as Placed ℕ bound_of place_of sigs case_type names marks vs types (types (b.Param k)) u))
              → Meets g (B.only_alone Placed ℕ bound_of place_of sigs case_type names marks vs types o (B.same_as Placed ℕ bound_of place_of sigs case_type names marks vs types (types (b.Param k)) u)) → Alike f g u
          alone_alike None m m' = absurd m.0
          alone_alike (Some x) m m' = same_alike (types (b.Param k)) u (placed (b.Param k)) m m'
      note_alike mark.Signal u k p m m' = alone_alike (shape_of p).alone m
        where
          alone_alike : (o : Option ℕ) → Meets f (B.only_alone Placed ℕ bound_of place_of sigs case_type names marks vs types o (Fits ((u, t.Signal any) ∷ []) ∷ B.same_as Placed ℕ bound_of place_of sigs case_type names marks vs types (types (b.Param k)) u)) → Alike f g u
          alone_alike None m = λ e. absurd m.0
          alone_alike (Some x) m = λ e. absurd (first_not f u (t.Signal any) [] (signal_is any) m.0 e)
      note_alike mark.Data u k p m m' = λ e. first_data g u ((shape_of p).scheme 0) _ (scheme_data p 0) m'.0
      note_alike mark.Clock u k p m m' = λ e. first_data g u ((shape_of p).scheme 0) _ (scheme_data p 0) m'.0
      note_alike mark.Unknown u k p m m' = λ e. first_data g u ((shape_of p).scheme 0) _ (scheme_data p 0) m'.0

      notes_alike : (ps : List Pat) (ms : List Mark) (ns : List Placed) (k : ℕ)
          → Meets f (B.params_ask Placed ℕ bound_of place_of sigs case_type names marks vs types ps ms ns k)
          → Meets g (B.params_ask Placed ℕ bound_of place_of sigs case_type names marks vs types ps ms ns k) → Each (Alike f g) (note_places ns)
      notes_alike ps ms [] k m m' = tt
      notes_alike [] [] (n ∷ ns) k m m' = absurd m.0
      notes_alike [] (x ∷ ms) (n ∷ ns) k m m' = absurd m.0
      notes_alike (p ∷ ps) [] (n ∷ ns) k m m' = absurd m.0
      notes_alike (p ∷ ps) (x ∷ ms) (n ∷ ns) k m m' =
          let ds = B.param_asks Placed ℕ bound_of place_of sigs case_type names marks vs types x (place_of n) k (shape_of p) in
          let es = B.params_ask Placed ℕ bound_of place_of sigs case_type names marks vs types ps ms ns (k + length ((shape_of p).names 0)) in
          (note_alike x (place_of n) k p (meets_left f ds es m) (meets_left g ds es m'), notes_alike ps ms ns (k + length ((shape_of p).names 0)) (meets_right f ds es m) (meets_right g ds es m'))

      place_alike : (k : ℕ) → IsPlace sigs case_type vs d k → Alike f g k
      place_alike k (inl l) = elim (cases_lt k (length names)) [
        | inl x ↦ param_alike k x
        | inr x ↦
            let e : length names + (k - length names) ≡ k = omega (arith, x) in
            subst (Alike f g) e (variable_alike (k - length names) (omega (arith, x, l)))
      ]
      place_alike k (inr m) = each_among (Alike f g) (note_places d.notes ++ body_places place_of d.body) k
          (each_both (Alike f g) (note_places d.notes) (body_places place_of d.body)
          (notes_alike d.params d.marks d.notes 0 (meets_right f heads firsts (meets_left f (heads ++ firsts) inside mf)) (meets_right g heads firsts (meets_left g (heads ++ firsts) inside mg)))
          (body_alike bound_of place_of sigs case_type names marks vs types f g placed (length d.params) d.body (meets_right f (heads ++ firsts) inside mf) (meets_right g (heads ++ firsts) inside mg)))
          m

      all_alike : IsAnnotation sigs case_type vs d g → (k : ℕ) → Alike f g k
      all_alike a k = elim (a k) [
        | inl p ↦ place_alike k p
        | inr e ↦ λ x. ap is_data e ∙ unit_data
      ]

    module _ (s : ℕ → Option TypeTerm) (unifies : Unify s (pairs asks)) (general : (by : ℕ → Option TypeTerm) → Unify by (pairs asks) → (u : TypeTerm) → apply by (apply s u) ≡ apply by u) where
      -- a most general unifier whose own variables stand for data gives a principal annotation
      pub principal : AreData asks s → AreFunctions sigs case_type vs d → IsPrincipal sigs case_type vs d (solved asks s)
      principal known functions =
          let f = solved asks s in
          let mf : Meets f asks = solved_meet asks s unifies known in
          record {
            obeys = subst (λ P. P) (sym (obeys_is f)) mf;
            general = λ g a o.
                let h : Meets g asks = subst (λ P. P) (obeys_is g) o in
                (read_off asks g h, instance_of asks s unifies general g h, by_data asks s unifies general g h (all_alike functions f g mf h a));
          }

      -- where they do not, no annotation obeys the rules
      pub none_obeys : (AreData asks s → ⊥) → (g : ℕ → TypeTerm) → Obeys sigs case_type vs g (annotated sigs case_type vs d g) → ⊥
      none_obeys other g o = other (must_be_data asks s unifies general g (subst (λ P. P) (obeys_is g) o))

    -- where no unifier has values within the limit, no annotation has types within it
    pub none_small : (limit : ℕ) → 1 ≤ limit
        → ((by : ℕ → Option TypeTerm) → Unify by (pairs asks) → ((x : ℕ) (u : TypeTerm) → by x ≡ Some u → size u ≤ limit) → ⊥)
        → (g : ℕ → TypeTerm) → Obeys sigs case_type vs g (annotated sigs case_type vs d g) → ((k : ℕ) → size (g k) ≤ limit) → ⊥
    none_small limit some clash g o small =
        let h : Meets g asks = subst (λ P. P) (obeys_is g) o in
        clash (λ x. Some (read_off asks g h x)) (read_unifies asks g h)
        (λ x u e. let v : read_off asks g h x ≡ u = cc in subst (λ z. size z ≤ limit) v (read_small asks limit g h some small x))

    -- where a unifier's values are within the limit, the types are
    pub solved_small : (limit : ℕ) (s : ℕ → Option TypeTerm) → 1 ≤ limit → ((x : ℕ) (u : TypeTerm) → s x ≡ Some u → size u ≤ limit) → (k : ℕ) → size (solved asks s k) ≤ limit
    solved_small limit s some few k = subst (λ z. size z ≤ limit) (sym (at_var s (widths asks + k))) (value_small (s (widths asks + k)) refl)
      where
        value_small : (o : Option TypeTerm) → s (widths asks + k) ≡ o → size (unwrap_or o (roll-TypeTerm (TypeTerm-F.Var (widths asks + k)))) ≤ limit
        value_small None e = let z = fold-roll-TypeTerm ℕ (λ x. 1 + sum (kids_at x)) (TypeTerm-F.Var (widths asks + k)) in omega (arith, z, some)
        value_small (Some u) e = few (widths asks + k) u e
