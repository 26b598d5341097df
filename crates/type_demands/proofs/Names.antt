-- What the names of a definition ask.
use Rattle.std.specs.Prelude.{◌≡◌, refl, ℕ, zero, suc, ◌+◌, ◌<◌, ◌≤◌, ◌⊎◌, Bool, false, if◌then◌else◌, List, [], ◌∷◌, ◌++◌, map, length, slice_get, Option, Some}
use Rattle.std.proofs.Common.{ap, sym, ◌∙◌, arith, drop, inl, inr}
use Rattle.std.proofs.lemmas.List.{drop_all}
use Rattle.ls_ast.specs.declared.tree.Expr.{Expr}
use Rattle.ls_ast.specs.declared.tree.Mark.{Mark}
use Rattle.ls_ast.specs.declared.tree.Pat.{Pat}
use Rattle.ls_places.specs.Patterns.{joined, names_of}
use Rattle.ls_terms.specs.declared.types.TypeTerm.{TypeTerm}
use Rattle.type_demands.specs.Walks as spec
use Rattle.type_readings.proofs.Forms.{ty_is}
use Rattle.type_readings.proofs.Turns.{more_part}
use Rattle.type_readings.specs.Given as scene
use Rattle.type_readings.specs.declared.given.Given.{Given}
use Rattle.type_rules.specs.Bodies as B
use Rattle.type_rules.specs.Bodies.{Shape}
use Rattle.type_rules.specs.Definitions as D
use Rattle.type_rules.specs.Definitions.{Definition, param_names, name_marks, mark_in, names_type}
use Rattle.type_rules.specs.Numbers.{Placed, bound_of, place_of}
use Rattle.type_rules.specs.declared.around.Around.{Around}
use Rattle.type_rules.specs.declared.demand.Demand.{Demand}
use Rattle.type_rules.specs.declared.demand.Demand.TheVariants.{Never}

pub names_all : (ps : List Pat) → param_names ps ≡ joined (map names_of ps)
names_all [] = refl
names_all (p ∷ ps) = ap (λ z. names_of p ++ z) (names_all ps)

dropped : {A : Type 0} (xs : List A) (k : ℕ) → k < length xs → (x : A) × (slice_get xs k ≡ Some x) × (drop k xs ≡ x ∷ drop (suc k) xs)
dropped [] k h = absurd (omega (arith, h))
dropped (x ∷ xs) zero h = (x, refl, refl)
dropped (x ∷ xs) (suc k) h = dropped xs k (omega (arith, h))

next_one : (k : ℕ) → suc k ≡ k + 1
next_one k = omega arith

next_sum : (n k : ℕ) → suc (n + k) ≡ n + (k + 1)
next_sum n k = omega arith

module _ {C : Type 0} (case_type : C → ℕ → Option TypeTerm) (g : Given C) where
  -- one more parameter's name
  pub params_turn : (k : ℕ) (out out' whole : List (Demand ℕ)) → k < length g.params.now → out' ≡ out ++ spec.name_asks case_type g (scene.mark_at g.marks.now k) k
      → out ++ spec.params_named case_type g (drop k g.params.now) k ≡ whole → out' ++ spec.params_named case_type g (drop (k + 1) g.params.now) (k + 1) ≡ whole
  params_turn k out out' whole below now before =
      let d = dropped g.params.now k below in
      more_part out out' (spec.name_asks case_type g (scene.mark_at g.marks.now k) k) (spec.params_named case_type g (drop k g.params.now) k) (spec.params_named case_type g (drop (k + 1) g.params.now) (k + 1)) whole now
      (ap (λ l. spec.params_named case_type g l k) d.2
      ∙ ap (λ j. spec.name_asks case_type g (scene.mark_at g.marks.now k) k ++ spec.params_named case_type g (drop j g.params.now) j) (next_one k))
      before

  -- one more variable
  pub vars_turn : (k : ℕ) (signal : Bool) (m : Mark) (out out' whole : List (Demand ℕ)) → k < length g.vars.now → signal ≡ scene.signal_at case_type g k
      → spec.name_asks case_type g m (length g.params.now + k) ≡ spec.signal_asks case_type g signal (length g.params.now + k)
      → out' ≡ out ++ spec.name_asks case_type g m (length g.params.now + k)
      → out ++ spec.vars_named case_type g (drop k g.vars.now) (length g.params.now + k) ≡ whole → out' ++ spec.vars_named case_type g (drop (k + 1) g.vars.now) (length g.params.now + (k + 1)) ≡ whole
  vars_turn k signal m out out' whole below is same now before =
      let n = length g.params.now in
      let d = dropped g.vars.now k below in
      let told : signal ≡ d.0.signal = is ∙ ap (B.is_signal_at Placed ℕ bound_of place_of g.sigs.now (scene.cases case_type g) g.params.now (scene.marks case_type g) g.vars.now (scene.type_of case_type g)) d.1 in
      more_part out out' (spec.name_asks case_type g m (n + k)) (spec.vars_named case_type g (drop k g.vars.now) (n + k)) (spec.vars_named case_type g (drop (k + 1) g.vars.now) (n + (k + 1))) whole now
      (ap (λ l. spec.vars_named case_type g l (n + k)) d.2
      ∙ (λ i. spec.signal_asks case_type g (sym told i) (n + k) ++ spec.vars_named case_type g (drop (next_one k i) g.vars.now) (next_sum n k i))
      ∙ ap (λ z. z ++ spec.vars_named case_type g (drop (k + 1) g.vars.now) (n + (k + 1))) (sym same))
      before

  -- all that a definition asks
  abbrev parts : Definition Placed → List ℕ → List Mark → List (Demand ℕ)
  parts d names marks =
      let at = λ (k : ℕ). mark_in (slice_get marks k) in
      let types = names_type g.sigs.now (scene.cases case_type g) (length names) (length g.vars.now) (λ k. k) in
      (D.params_named g.sigs.now (scene.cases case_type g) at (λ k. k) names 0 ++ D.vars_named g.sigs.now (scene.cases case_type g) (λ k. k) g.vars.now (length names))
      ++ B.params_ask Placed ℕ bound_of place_of g.sigs.now (scene.cases case_type g) names at g.vars.now types d.params d.marks d.notes 0
      ++ B.body_asks Placed ℕ bound_of place_of g.sigs.now (scene.cases case_type g) names at g.vars.now types (length d.params) d.body

  pub definition_told : (d : Definition Placed) → g.params.now ≡ param_names d.params → g.marks.now ≡ name_marks d.params d.marks → parts d g.params.now g.marks.now ≡ spec.definition_asks case_type g d
  definition_told d p m = λ i. parts d (p i) (m i)

  -- an equation of data
  pub plain_parts : (p : Shape) (e : Expr Placed) (w : Around) → (spec.said case_type g e).answers_signal ≡ false
      → spec.plain_equation case_type g p e w ≡ B.parts_have (spec.bound_at case_type g w) (place_of e.note) (spec.wrapped false) p ++ (spec.said case_type g e).stream
  plain_parts p e w data' =
      ap (λ c. if c then spec.signal_equation case_type g p.alone e w else B.parts_have (spec.bound_at case_type g w) (spec.said case_type g e).ty (λ s. s) p ++ (spec.said case_type g e).stream) data'
      ∙ ap (λ k. B.parts_have (spec.bound_at case_type g w) k (λ s. s) p ++ (spec.said case_type g e).stream) (ty_is case_type g e)

  extra_marks : (m : Mark) (ms : List Mark) (ns : List Placed) (k : ℕ) → spec.params_ask case_type g [] (m ∷ ms) ns k ≡ Never ∷ []
  extra_marks m ms [] k = refl
  extra_marks m ms (n ∷ ns) k = refl

  extra_notes : (n : Placed) (ms : List Mark) (ns : List Placed) (k : ℕ) → spec.params_ask case_type g [] ms (n ∷ ns) k ≡ Never ∷ []
  extra_notes n [] ns k = refl
  extra_notes n (m ∷ ms) ns k = refl

  -- more marks or notes than parameters
  pub params_over : (ps : List Pat) (ms : List Mark) (ns : List Placed) (i k : ℕ) → length ps ≤ i → i ≤ length ps → (length ps < length ms) ⊎ (length ps < length ns)
      → spec.params_ask case_type g (drop i ps) (drop i ms) (drop i ns) k ≡ Never ∷ []
  params_over ps ms ns i k past within (inl more) =
      let d = dropped ms i (omega (arith, within, more)) in
      ap (λ l. spec.params_ask case_type g l (drop i ms) (drop i ns) k) (drop_all i ps past) ∙ ap (λ l. spec.params_ask case_type g [] l (drop i ns) k) d.2 ∙ extra_marks d.0 (drop (suc i) ms) (drop i ns) k
  params_over ps ms ns i k past within (inr more) =
      let d = dropped ns i (omega (arith, within, more)) in
      ap (λ l. spec.params_ask case_type g l (drop i ms) (drop i ns) k) (drop_all i ps past) ∙ ap (λ l. spec.params_ask case_type g [] (drop i ms) l k) d.2 ∙ extra_notes d.0 (drop i ms) (drop (suc i) ns) k
