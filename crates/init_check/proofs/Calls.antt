-- Calls, by what they are.
use Rattle.std.specs.Prelude.{◌≡◌, refl, ℕ, Bool, true, false, List, [], ◌∷◌, ◌++◌, map, Option, Some, None, if◌then◌else◌}
use Rattle.std.proofs.Common.{ap, sym, ◌∙◌, append_assoc}
use Rattle.ls_places.specs.Clocks.{is_function}
use Rattle.ls_places.specs.Places.{Place}
use Rattle.ls_places.specs.Search.{E, nth}
use Rattle.ls_places.specs.declared.definition.Definition.{Definition}
use Rattle.ls_sig.specs.declared.binder.Binder.{Binder}
use Rattle.ls_sig.specs.declared.binder.Binder.TheVariants as b
use Rattle.ls_sig.specs.declared.binder.Note.{Note}
use Rattle.ls_sig.specs.declared.sigs.InitSig.{InitSig}
use Rattle.init_rules.specs.Bits.{own_of}
use Rattle.init_rules.specs.Flow.{Flow, Sourced, applied_flow, barred_of, call_flow, called_flow, function_flow, head_flow, if_always, owns, reached_of, sourced, sources_of, used_flow, zeros_of}
use Rattle.init_rules.specs.Nodes.{counts, nodes}
use Rattle.init_check.specs.Walks as own
use Rattle.init_check.proofs.Pushed.{all_sources_are, all_zeros_are, barred_are, name_nodes_are, nodes_append, nodes_one, nothing_after, reached_are}

module _ (d : Definition) (sigs : List InitSig) (p : Place) where
  abbrev given : List E → List Sourced
  given es = map (sourced d sigs p) es

  if_function : (run : Bool) (n : Note) (rs : List Sourced) (t : Bool) → is_function n ≡ t
      → called_flow d sigs run n rs ≡ (if t then function_flow (owns d sigs n.bound) rs else head_flow d sigs run n.bound rs)
  if_function run n rs t e = ap (λ z. if z then function_flow (owns d sigs n.bound) rs else head_flow d sigs run n.bound rs) e

  -- ---- what feeds a call

  pub function_sources : (run : Bool) (n : Note) (es : List E) → is_function n ≡ true → [] ≡ own.call_sources d sigs p run n es
  function_sources run n es e = sym (ap (λ (z : Flow). nodes (counts d) z.sources) (if_function run n (given es) true e))

  head_sources : (run : Bool) (n : Note) (es : List E) (bound : Binder) → is_function n ≡ false → n.bound ≡ bound
      → nodes (counts d) (head_flow d sigs run bound (given es)).sources ≡ own.call_sources d sigs p run n es
  head_sources run n es bound e is =
      sym (ap (λ (z : Flow). nodes (counts d) z.sources) (if_function run n (given es) false e ∙ ap (λ z. head_flow d sigs run z (given es)) is))

  applied_sources_are : (run : Bool) (es : List E) → own.applied_sources d sigs p run es ≡ nodes (counts d) (applied_flow run (given es)).sources
  applied_sources_are true es = refl
  applied_sources_are false es = all_sources_are d sigs p es

  defined_sources_are : (o : Option InitSig) (es : List E) → own.defined_sources d sigs p o es ≡ nodes (counts d) (call_flow o (given es)).sources
  defined_sources_are None es = refl
  defined_sources_are (Some s) es =
      ap (λ z. own.if_one s.own ++ z) (reached_are d sigs p s.reaches es) ∙ ap (λ z. z ++ nodes (counts d) (reached_of s.reaches (given es))) (sym (nodes_one (counts d) s.own))
      ∙ sym (nodes_append (counts d) (if_always s.own) (reached_of s.reaches (given es)))

  pub def_sources : (run : Bool) (n : Note) (es : List E) (k : ℕ) → is_function n ≡ false → n.bound ≡ b.Def k
      → own.defined_sources d sigs p (nth sigs k) es ≡ own.call_sources d sigs p run n es
  def_sources run n es k e is = defined_sources_are (nth sigs k) es ∙ head_sources run n es (b.Def k) e is

  pub var_sources : (run : Bool) (n : Note) (es : List E) (k : ℕ) → is_function n ≡ false → n.bound ≡ b.Var k → own.applied_sources d sigs p run es ≡ own.call_sources d sigs p run n es
  var_sources run n es k e is = applied_sources_are run es ∙ head_sources run n es (b.Var k) e is

  pub param_sources : (run : Bool) (n : Note) (es : List E) (k : ℕ) → is_function n ≡ false → n.bound ≡ b.Param k
      → own.applied_sources d sigs p run es ≡ own.call_sources d sigs p run n es
  param_sources run n es k e is = applied_sources_are run es ∙ head_sources run n es (b.Param k) e is

  pub nothing_sources : (run : Bool) (n : Note) (es : List E) → is_function n ≡ false → n.bound ≡ b.Nothing → own.applied_sources d sigs p run es ≡ own.call_sources d sigs p run n es
  nothing_sources run n es e is = applied_sources_are run es ∙ head_sources run n es b.Nothing e is

  pub case_sources : (run : Bool) (n : Note) (es : List E) (t k : ℕ) → is_function n ≡ false → n.bound ≡ b.Case t k
      → own.applied_sources d sigs p run es ≡ own.call_sources d sigs p run n es
  case_sources run n es t k e is = applied_sources_are run es ∙ head_sources run n es (b.Case t k) e is

  -- ---- what a call asks to be 0

  run_asked : (run : Bool) (es : List E) → nodes (counts d) (applied_flow run (given es)).zeros ≡ own.if_nodes run (own.all_sources d sigs p es) ++ own.all_zeros d sigs p es
  run_asked true es =
      nodes_append (counts d) (sources_of (given es)) (zeros_of (given es)) ∙ ap (λ z. z ++ nodes (counts d) (zeros_of (given es))) (sym (all_sources_are d sigs p es))
      ∙ ap (λ z. own.all_sources d sigs p es ++ z) (sym (all_zeros_are d sigs p es))
  run_asked false es = sym (all_zeros_are d sigs p es)

  def_asked : (o : Option InitSig) (es : List E) → nodes (counts d) (call_flow o (given es)).zeros ≡ own.barred_nodes d sigs p o es ++ own.all_zeros d sigs p es
  def_asked None es =
      nodes_append (counts d) (sources_of (given es)) (zeros_of (given es)) ∙ ap (λ z. z ++ nodes (counts d) (zeros_of (given es))) (sym (all_sources_are d sigs p es))
      ∙ ap (λ z. own.all_sources d sigs p es ++ z) (sym (all_zeros_are d sigs p es))
  def_asked (Some s) es =
      nodes_append (counts d) (barred_of s.may (given es)) (zeros_of (given es)) ∙ ap (λ z. z ++ nodes (counts d) (zeros_of (given es))) (sym (barred_are d sigs p s.may es))
      ∙ ap (λ z. own.chosen_sources d sigs p s.may false 0 es ++ z) (sym (all_zeros_are d sigs p es))

  head_asked : (run : Bool) (bound : Binder) (es : List E)
      → nodes (counts d) (head_flow d sigs run bound (given es)).zeros ≡ own.asked_nodes d sigs p run bound es ++ own.all_zeros d sigs p es
  head_asked run b.Nothing es = run_asked run es
  head_asked run (b.Def k) es = def_asked (nth sigs k) es
  head_asked run (b.Param k) es = run_asked run es
  head_asked run (b.Var k) es = run_asked run es
  head_asked run (b.Case t k) es = run_asked run es

  function_asked : (own_bit : Bool) (es : List E)
      → nodes (counts d) (function_flow own_bit (given es)).zeros ≡ (own.if_one own_bit ++ own.all_sources d sigs p es) ++ own.all_zeros d sigs p es
  function_asked own_bit es =
      nodes_append (counts d) (if_always own_bit) (sources_of (given es) ++ zeros_of (given es))
      ∙ ap (λ z. z ++ nodes (counts d) (sources_of (given es) ++ zeros_of (given es))) (nodes_one (counts d) own_bit)
      ∙ ap (λ z. own.if_one own_bit ++ z) (nodes_append (counts d) (sources_of (given es)) (zeros_of (given es)) ∙ ap (λ z. z ++ nodes (counts d) (zeros_of (given es))) (sym (all_sources_are d sigs p es))
      ∙ ap (λ z. own.all_sources d sigs p es ++ z) (sym (all_zeros_are d sigs p es)))
      ∙ sym (append_assoc (own.if_one own_bit) (own.all_sources d sigs p es) (own.all_zeros d sigs p es))

  asked_if : (run : Bool) (n : Note) (es : List E) (t : Bool) → is_function n ≡ t → own.call_zeros d sigs p run n es ≡ own.call_asked d sigs p run n es ++ own.all_zeros d sigs p es
  asked_if run n es true e =
      ap (λ (z : Flow). nodes (counts d) z.zeros) (if_function run n (given es) true e) ∙ function_asked (owns d sigs n.bound) es
      ∙ ap (λ z. z ++ own.all_zeros d sigs p es) (sym (ap (λ z. if z then own.if_one (owns d sigs n.bound) ++ own.all_sources d sigs p es else own.asked_nodes d sigs p run n.bound es) e))
  asked_if run n es false e =
      ap (λ (z : Flow). nodes (counts d) z.zeros) (if_function run n (given es) false e) ∙ head_asked run n.bound es
      ∙ ap (λ z. z ++ own.all_zeros d sigs p es) (sym (ap (λ z. if z then own.if_one (owns d sigs n.bound) ++ own.all_sources d sigs p es else own.asked_nodes d sigs p run n.bound es) e))

  pub call_zeros_are : (run : Bool) (n : Note) (es : List E) → own.call_zeros d sigs p run n es ≡ own.call_asked d sigs p run n es ++ own.all_zeros d sigs p es
  call_zeros_are run n es = asked_if run n es (is_function n) refl

-- ---- names

module _ (d : Definition) (sigs : List InitSig) where
  flow_if : (n : Note) (k : ℕ) (t : Bool) → is_function n ≡ t
      → called_flow d sigs false n [] ≡ (if t then function_flow (owns d sigs n.bound) [] else head_flow d sigs false n.bound [])
  flow_if n k t e = ap (λ z. if z then function_flow (owns d sigs n.bound) [] else head_flow d sigs false n.bound []) e

  used_def : (n : Note) (x k : ℕ) → n.bound ≡ b.Def k → used_flow d sigs n n.bound x ≡ called_flow d sigs false n []
  used_def n x k is = ap (λ z. used_flow d sigs n z x) is

  pub used_function_sources : (n : Note) (x k : ℕ) → n.bound ≡ b.Def k → is_function n ≡ true → [] ≡ own.used_sources d sigs n x
  used_function_sources n x k is e = sym (ap (λ (z : Flow). nodes (counts d) z.sources) (used_def n x k is ∙ flow_if n k true e))

  head_is : (n : Note) (x k : ℕ) → n.bound ≡ b.Def k → is_function n ≡ false → used_flow d sigs n n.bound x ≡ call_flow (nth sigs k) []
  head_is n x k is e = used_def n x k is ∙ flow_if n k false e ∙ ap (λ z. head_flow d sigs false z []) is

  reached_none : (bits : List Bool) → reached_of bits [] ≡ []
  reached_none [] = refl
  reached_none (q ∷ bits) = refl

  one_alone : (c : Bool) (bits : List Bool) → nodes (counts d) (if_always c ++ reached_of bits []) ≡ own.if_one c
  one_alone c bits = ap (λ z. nodes (counts d) (if_always c ++ z)) (reached_none bits) ∙ ap (nodes (counts d)) (sym (nothing_after (if_always c))) ∙ nodes_one (counts d) c

  pub used_none_sources : (n : Note) (x k : ℕ) → n.bound ≡ b.Def k → is_function n ≡ false → nth sigs k ≡ None → [] ≡ own.used_sources d sigs n x
  used_none_sources n x k is e none = sym (ap (λ (z : Flow). nodes (counts d) z.sources) (head_is n x k is e ∙ ap (λ z. call_flow z []) none))

  pub used_some_sources : (n : Note) (x k : ℕ) (s : InitSig) → n.bound ≡ b.Def k → is_function n ≡ false → nth sigs k ≡ Some s → own.if_one s.own ≡ own.used_sources d sigs n x
  used_some_sources n x k s is e some =
      sym (ap (λ (z : Flow). nodes (counts d) z.sources) (head_is n x k is e ∙ ap (λ z. call_flow z []) some) ∙ one_alone s.own s.reaches)

  pub used_name_sources : (n : Note) (x : ℕ) (bound : Binder) → n.bound ≡ bound → ((k : ℕ) → bound ≡ b.Def k → ⊥) → own.name_nodes d n.bound x ≡ own.used_sources d sigs n x
  used_name_sources n x bound is not_def = ap (λ z. own.name_nodes d z x) is ∙ by_bound bound not_def ∙ sym (ap (λ z. nodes (counts d) (used_flow d sigs n z x).sources) is)
    where
      by_bound : (bound : Binder) → ((k : ℕ) → bound ≡ b.Def k → ⊥) → own.name_nodes d bound x ≡ nodes (counts d) (used_flow d sigs n bound x).sources
      by_bound b.Nothing f = refl
      by_bound (b.Def k) f = absurd (f k refl)
      by_bound (b.Param k) f = name_nodes_are d sigs (b.Param k) x
      by_bound (b.Var k) f = refl
      by_bound (b.Case t k) f = refl

  pub used_function_zeros : (n : Note) (x k : ℕ) → n.bound ≡ b.Def k → is_function n ≡ true → own.if_one (own_of (nth sigs k)) ≡ own.used_zeros d sigs n x
  used_function_zeros n x k is e =
      sym (ap (λ (z : Flow). nodes (counts d) z.zeros) (used_def n x k is ∙ flow_if n k true e)
      ∙ ap (λ z. nodes (counts d) (if_always (owns d sigs z) ++ [])) is ∙ ap (nodes (counts d)) (sym (nothing_after (if_always (own_of (nth sigs k))))) ∙ nodes_one (counts d) (own_of (nth sigs k)))

  no_zeros : (o : Option InitSig) → [] ≡ nodes (counts d) (call_flow o []).zeros
  no_zeros None = refl
  no_zeros (Some s) = refl

  pub used_stream_zeros : (n : Note) (x k : ℕ) → n.bound ≡ b.Def k → is_function n ≡ false → [] ≡ own.used_zeros d sigs n x
  used_stream_zeros n x k is e = no_zeros (nth sigs k) ∙ sym (ap (λ (z : Flow). nodes (counts d) z.zeros) (head_is n x k is e))
