-- The types of parameters that are marked as functions, in a signature.
use Rattle.std.specs.Prelude.{◌≡◌, refl, ℕ, ◌+◌, ◌<◌, Bool, true, false, List, [], ◌∷◌, map, length, slice_get, Option, Some, None, if◌then◌else◌, nat_lt}
use Rattle.std.proofs.Common.{ap, ◌∙◌, subst, arith, length-append}
use Rattle.ls_ast.specs.declared.tree.Mark.{Mark}
use Rattle.ls_ast.specs.declared.tree.Mark.TheVariants as mark
use Rattle.ls_ast.specs.declared.tree.Pat.{Pat}
use Rattle.ls_places.specs.Patterns as FP
use Rattle.ls_places.specs.declared.places.Variable.{Variable}
use Rattle.ls_terms.specs.declared.types.TypeTerm.{TypeTerm}
use Rattle.ls_terms.specs.Types.{apply}
use Rattle.ls_sig.specs.declared.binder.Binder.{Binder}
use Rattle.ls_sig.specs.declared.binder.Binder.TheVariants as binder
use Rattle.ls_sig.specs.declared.sigs.Sig.{Sig}
use Rattle.type_rules.specs.Schemes.{is_data}
use Rattle.type_rules.specs.declared.demand.Demand.{Demand}
use Rattle.type_rules.specs.Demands.{Meets}
use Rattle.type_rules.specs.Numbers.{Placed, bound_of, place_of}
use Rattle.type_rules.specs.Bodies as B
use Rattle.type_rules.specs.Bodies.{shape_of}
use Rattle.type_rules.specs.Definitions.{name_marks, mark_in, param_names, names_type}
use Rattle.type_rules.specs.Expressions.{is_functional}
use Rattle.type_rules.specs.Files.{note_types}
use Rattle.type_rules.specs.Principal.{typed_by}
use Rattle.type_rules.proofs.Instances.{data_back}
use Rattle.type_rules.proofs.Placing.{meets_left, meets_right}
use Rattle.type_premises.specs.Premises.{FunctionTypes}
use Rattle.type_premises.proofs.Lists.{not_true}
use Rattle.type_premises.proofs.Marks.{names_long, alone_name, marks_later, mark_first}

module _ (sigs : List Sig) (case_type : ℕ → Option TypeTerm) (names : List ℕ) (marks : ℕ → Mark) (vs : List Variable) (np nv : ℕ) (f : ℕ → TypeTerm) where
  abbrev types : Binder → Option ℕ
  types = names_type sigs case_type np nv (λ k. k)

  abbrev same_as : Option ℕ → ℕ → List (Demand ℕ)
  same_as = B.same_as Placed ℕ bound_of place_of sigs case_type names marks vs types

  abbrev only_alone : Option ℕ → List (Demand ℕ) → List (Demand ℕ)
  only_alone = B.only_alone Placed ℕ bound_of place_of sigs case_type names marks vs types

  abbrev param_asks : Mark → ℕ → ℕ → B.Shape → List (Demand ℕ)
  param_asks = B.param_asks Placed ℕ bound_of place_of sigs case_type names marks vs types

  abbrev params_ask : List Pat → List Mark → List Placed → ℕ → List (Demand ℕ)
  params_ask = B.params_ask Placed ℕ bound_of place_of sigs case_type names marks vs types

  -- a whole parameter has the type of its name
  record Whole (o : Option ℕ) (k u : ℕ) : Type 0 where
    pub name : ℕ
    pub is : o ≡ Some name
    pub same : f k ≡ f u

  some_is : (c : Bool) (k v : ℕ) → (if c then Some k else None) ≡ Some v → k ≡ v
  some_is true k v e = cc
  some_is false k v e = absurd (cc)

  whole_at : (o w : Option ℕ) (k u : ℕ) → ((v : ℕ) → w ≡ Some v → k ≡ v) → Meets f (only_alone o (same_as w u)) → Whole o k u
  whole_at None w k u is m = absurd m.0
  whole_at (Some x) None k u is m = absurd m.0
  whole_at (Some x) (Some v) k u is m = record { name = x; is = refl; same = ap f (is v refl) ∙ m.0 }

  whole : (m : Mark) (p : Pat) (k u : ℕ) → is_functional m ≡ true → Meets f (param_asks m u k (shape_of p)) → Whole (shape_of p).alone k u
  whole mark.Comb p k u e m = whole_at (shape_of p).alone (types (binder.Param k)) k u (λ v. some_is (nat_lt k np) k v) m
  whole mark.Seq p k u e m = whole_at (shape_of p).alone (types (binder.Param k)) k u (λ v. some_is (nat_lt k np) k v) m
  whole mark.Unknown p k u e m = absurd (cc)
  whole mark.Data p k u e m = absurd (cc)
  whole mark.Clock p k u e m = absurd (cc)
  whole mark.Signal p k u e m = absurd (cc)

  -- the names that are marked as functions are no data
  abbrev pub NoData : List Pat → List Mark → ℕ → Type 0
  NoData ps ms k = (i : ℕ) → i < length (param_names ps) → is_functional (mark_in (slice_get (name_marks ps ms) i)) ≡ true → is_data (f (k + i)) ≡ true → ⊥

  here : (p : Pat) (ps : List Pat) (m : Mark) (ms : List Mark) (k u : ℕ) → NoData (p ∷ ps) (m ∷ ms) k → is_functional m ≡ true → Whole (shape_of p).alone k u → is_data (f u) ≡ true → ⊥
  here p ps m ms k u none e w d =
      let one = alone_name p w.name w.is in
      let l = length-append (FP.names_of p) (param_names ps) in
      let z : k ≡ k + 0 = omega arith in
      none 0 (omega (arith, one, l)) (ap (λ o. is_functional (mark_in o)) (mark_first m (FP.names_of p) (name_marks ps ms) one) ∙ e) (subst (λ j. is_data (f j) ≡ true) z (ap is_data w.same ∙ d))

  there : (p : Pat) (ps : List Pat) (m : Mark) (ms : List Mark) (k : ℕ) → NoData (p ∷ ps) (m ∷ ms) k → NoData ps ms (k + length ((shape_of p).names 0))
  there p ps m ms k none i l e d =
      let n = length (FP.names_of p) in
      let a = length-append (FP.names_of p) (param_names ps) in
      let b = names_long p 0 in
      let z : (k + length ((shape_of p).names 0)) + i ≡ k + (n + i) = omega (arith, b) in
      none (n + i) (omega (arith, a, l)) (ap (λ o. is_functional (mark_in o)) (marks_later m (FP.names_of p) (name_marks ps ms) i) ∙ e) (subst (λ j. is_data (f j) ≡ true) z d)

  -- the parameters of a definition, with a type for each variable of theirs
  pub param_types : (by : ℕ → Option TypeTerm) (ps : List Pat) (ms : List Mark) (ns : List Placed) (k : ℕ) → Meets f (params_ask ps ms ns k) → NoData ps ms k
      → FunctionTypes ms (map (apply by) (note_types (map (typed_by f) ns)))
  param_types by [] [] ns k m none = tt
  param_types by (p ∷ ps) [] ns k m none = tt
  param_types by [] (x ∷ ms) [] k m none = absurd m.0
  param_types by [] (x ∷ ms) (n ∷ ns) k m none = absurd m.0
  param_types by (p ∷ ps) (x ∷ ms) [] k m none = absurd m.0
  param_types by (p ∷ ps) (x ∷ ms) (n ∷ ns) k m none =
      let ds = param_asks x (place_of n) k (shape_of p) in
      let es = params_ask ps ms ns (k + length ((shape_of p).names 0)) in (
        (λ e. not_true (is_data (apply by (f (place_of n)))) (λ d. here p ps x ms k (place_of n) none e (whole x p k (place_of n) e (meets_left f ds es m)) (data_back by (f (place_of n)) d).0)),
        param_types by ps ms ns (k + length ((shape_of p).names 0)) (meets_right f ds es m) (there p ps x ms k none),
      )
