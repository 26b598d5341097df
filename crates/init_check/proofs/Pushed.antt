-- Nodes of lists of sources.
use Rattle.std.specs.Prelude.{◌≡◌, refl, ℕ, suc, ◌+◌, not, Bool, true, false, List, [], ◌∷◌, ◌++◌, map, Option, Some, None, if◌then◌else◌}
use Rattle.std.proofs.Common.{ap, sym, ◌∙◌, arith}
use Rattle.ls_ast.specs.declared.tree.Case.{Case}
use Rattle.ls_ast.specs.declared.tree.Pat.{Pat}
use Rattle.ls_places.specs.Clocks.{choice_parts}
use Rattle.ls_places.specs.Patterns.{has_name, names_of}
use Rattle.ls_places.specs.Places.{Place}
use Rattle.ls_places.specs.Search.{E, nth, start_of}
use Rattle.ls_places.specs.declared.definition.Definition.{Definition}
use Rattle.ls_places.specs.declared.places.Start.{Start}
use Rattle.ls_places.specs.declared.places.Variable.{Variable}
use Rattle.ls_sig.specs.declared.binder.Binder.{Binder}
use Rattle.ls_sig.specs.declared.binder.Binder.TheVariants as b
use Rattle.ls_sig.specs.declared.sigs.InitSig.{InitSig}
use Rattle.place_tables.specs.Tables.{param_in}
use Rattle.init_rules.specs.Bits.{leaves_reset, param_of}
use Rattle.init_rules.specs.Flow.{Sourced, barred_of, if_always, if_list, reached_of, sourced, sources_of, zeros_of}
use Rattle.init_rules.specs.Flow as flow
use Rattle.init_rules.specs.Nodes.{Counts, counts, node, nodes, var_node}
use Rattle.init_rules.specs.Slots.{Source}
use Rattle.init_check.specs.Walks as own

pub nothing_after : {A : Type 0} → (xs : List A) → xs ≡ xs ++ []
nothing_after [] = refl
nothing_after (x ∷ xs) = ap (λ z. x ∷ z) (nothing_after xs)

pub nodes_append : (n : Counts) (xs ys : List Source) → nodes n (xs ++ ys) ≡ nodes n xs ++ nodes n ys
nodes_append n [] ys = refl
nodes_append n (x ∷ xs) ys = ap (λ z. node n x ∷ z) (nodes_append n xs ys)

pub nodes_if : (n : Counts) (c : Bool) (xs : List Source) → nodes n (if_list c xs) ≡ own.if_nodes c (nodes n xs)
nodes_if n true xs = refl
nodes_if n false xs = refl

pub nodes_one : (n : Counts) (c : Bool) → nodes n (if_always c) ≡ own.if_one c
nodes_one n true = refl
nodes_one n false = refl

-- ---- names

pub param_is : (x : ℕ) (ps : List Pat) (k : ℕ) → param_in x ps k ≡ param_of x ps k
param_is x [] k = refl
param_is x (p ∷ ps) k = ap (λ z. if has_name x (names_of p) then Some k else z) (param_is x ps (suc k))

module _ (d : Definition) (sigs : List InitSig) where
  param_nodes_are : (o : Option ℕ) → own.param_nodes d o ≡ nodes (counts d) (flow.param_flow d sigs o)
  param_nodes_are None = refl
  param_nodes_are (Some k) = refl

  pub name_nodes_are : (bound : Binder) (x : ℕ) → own.name_nodes d bound x ≡ nodes (counts d) (flow.name_flow d sigs bound x)
  name_nodes_are b.Nothing x = refl
  name_nodes_are (b.Def k) x = refl
  name_nodes_are (b.Param k) x = ap (own.param_nodes d) (param_is x d.params 0) ∙ param_nodes_are (param_of x d.params 0)
  name_nodes_are (b.Var k) x = refl
  name_nodes_are (b.Case t k) x = refl

  started_are : (k : ℕ) (o : Option Start) → own.started_nodes d k o ≡ nodes (counts d) (flow.started_flow d sigs k o)
  started_are k None = refl
  started_are k (Some s) = refl

  pub start_nodes_are : (k : ℕ) (w : Variable) → own.start_nodes d k w ≡ nodes (counts d) (flow.last_flow d sigs k w)
  start_nodes_are k w = started_are k (start_of w d.places.starts)

  last_sources_of_are : (p : Place) (k : ℕ) (o : Option Variable) → own.last_sources_of d k o ≡ nodes (counts d) (flow.last_flows_of d sigs p k o).sources
  last_sources_of_are p k None = refl
  last_sources_of_are p k (Some w) = start_nodes_are k w

  pub last_sources_are : (p : Place) (bound : Binder) → own.last_sources d bound ≡ nodes (counts d) (flow.last_flows d sigs p bound).sources
  last_sources_are p b.Nothing = refl
  last_sources_are p (b.Def k) = refl
  last_sources_are p (b.Param k) = refl
  last_sources_are p (b.Var k) = last_sources_of_are p k (nth d.places.vars k)
  last_sources_are p (b.Case t k) = refl

  last_zeros_of_are : (p : Place) (k : ℕ) (o : Option Variable) → own.last_zeros_of d p k o ≡ nodes (counts d) (flow.last_flows_of d sigs p k o).zeros
  last_zeros_of_are p k None = refl
  last_zeros_of_are p k (Some w) =
      ap (λ z. var_node (counts d) k ∷ own.if_nodes (leaves_reset p w.place) z) (start_nodes_are k w)
      ∙ ap (λ z. var_node (counts d) k ∷ z) (sym (nodes_if (counts d) (leaves_reset p w.place) (flow.last_flow d sigs k w)))

  pub last_zeros_are : (p : Place) (bound : Binder) → own.last_zeros d p bound ≡ nodes (counts d) (flow.last_flows d sigs p bound).zeros
  last_zeros_are p b.Nothing = refl
  last_zeros_are p (b.Def k) = refl
  last_zeros_are p (b.Param k) = refl
  last_zeros_are p (b.Var k) = last_zeros_of_are p k (nth d.places.vars k)
  last_zeros_are p (b.Case t k) = refl

  -- ---- lists of expressions

  pub all_sources_are : (p : Place) (es : List E) → own.all_sources d sigs p es ≡ nodes (counts d) (sources_of (map (sourced d sigs p) es))
  all_sources_are p [] = refl
  all_sources_are p (e ∷ es) =
      ap (λ z. own.sources d sigs p e ++ z) (all_sources_are p es) ∙ sym (nodes_append (counts d) (sourced d sigs p e).sources (sources_of (map (sourced d sigs p) es)))

  pub all_zeros_are : (p : Place) (es : List E) → own.all_zeros d sigs p es ≡ nodes (counts d) (zeros_of (map (sourced d sigs p) es))
  all_zeros_are p [] = refl
  all_zeros_are p (e ∷ es) =
      ap (λ z. own.zeros d sigs p e ++ z) (all_zeros_are p es) ∙ sym (nodes_append (counts d) (sourced d sigs p e).zeros (zeros_of (map (sourced d sigs p) es)))

  abbrev pub choices : Place → List (Case × E) → List (Case × Sourced)
  choices p = map {A = Case × E} {B = Case × Sourced} (λ c. (c.0, sourced d sigs p c.1))

  pub choice_sources_are : (p : Place) (cs : List (Case × E)) → own.choice_sources d sigs p cs ≡ nodes (counts d) (sources_of (choice_parts (choices p cs)))
  choice_sources_are p [] = refl
  choice_sources_are p (c ∷ cs) =
      ap (λ z. own.sources d sigs p c.1 ++ z) (choice_sources_are p cs) ∙ sym (nodes_append (counts d) (sourced d sigs p c.1).sources (sources_of (choice_parts (choices p cs))))

  pub choice_zeros_are : (p : Place) (cs : List (Case × E)) → own.choice_zeros d sigs p cs ≡ nodes (counts d) (zeros_of (choice_parts (choices p cs)))
  choice_zeros_are p [] = refl
  choice_zeros_are p (c ∷ cs) =
      ap (λ z. own.zeros d sigs p c.1 ++ z) (choice_zeros_are p cs) ∙ sym (nodes_append (counts d) (sourced d sigs p c.1).zeros (zeros_of (choice_parts (choices p cs))))

  -- ---- arguments by their bits

  abbrev Tail : List Bool → ℕ → List Bool → Type 0
  Tail bits i rest = (j : ℕ) → nth bits (i + j) ≡ nth rest j

  none_more : (i : ℕ) → i ≡ i + 0
  none_more i = omega arith

  next_more : (i j : ℕ) → suc i + j ≡ i + suc j
  next_more i j = omega arith

  tail_next : (bits rest : List Bool) (i : ℕ) (q : Bool) → Tail bits i (q ∷ rest) → Tail bits (suc i) rest
  tail_next bits rest i q t j = ap (nth bits) (next_more i j) ∙ t (suc j)

  tail_end : (bits : List Bool) (i : ℕ) → Tail bits i [] → Tail bits (suc i) []
  tail_end bits i t j = ap (nth bits) (next_more i j) ∙ t (suc j)

  chosen_step : (p : Place) (bits : List Bool) (want t : Bool) (i : ℕ) (e : E) (es : List E) (more : List Source) → own.told want (nth bits i) ≡ t
      → own.chosen_sources d sigs p bits want (suc i) es ≡ nodes (counts d) more
      → own.chosen_sources d sigs p bits want i (e ∷ es) ≡ nodes (counts d) (if_list t (sourced d sigs p e).sources ++ more)
  chosen_step p bits want t i e es more told rest =
      ap (λ z. own.if_nodes z (own.sources d sigs p e) ++ own.chosen_sources d sigs p bits want (suc i) es) told
      ∙ ap (λ z. own.if_nodes t (own.sources d sigs p e) ++ z) rest
      ∙ ap (λ z. z ++ nodes (counts d) more) (sym (nodes_if (counts d) t (sourced d sigs p e).sources))
      ∙ sym (nodes_append (counts d) (if_list t (sourced d sigs p e).sources) more)

  told_at : (bits rest : List Bool) (want : Bool) (i : ℕ) → Tail bits i rest → own.told want (nth bits i) ≡ own.told want (nth rest 0)
  told_at bits rest want i t = ap (own.told want) (ap (nth bits) (none_more i) ∙ t 0)

  reached_from : (p : Place) (bits rest : List Bool) (i : ℕ) (es : List E) → Tail bits i rest
      → own.chosen_sources d sigs p bits true i es ≡ nodes (counts d) (reached_of rest (map (sourced d sigs p) es))
  reached_from p bits [] i [] t = refl
  reached_from p bits (q ∷ rest) i [] t = refl
  reached_from p bits [] i (e ∷ es) t = chosen_step p bits true false i e es [] (told_at bits [] true i t) (reached_from p bits [] (suc i) es (tail_end bits i t))
  reached_from p bits (q ∷ rest) i (e ∷ es) t =
      chosen_step p bits true q i e es (reached_of rest (map (sourced d sigs p) es)) (told_at bits (q ∷ rest) true i t) (reached_from p bits rest (suc i) es (tail_next bits rest i q t))

  barred_from : (p : Place) (bits rest : List Bool) (i : ℕ) (es : List E) → Tail bits i rest
      → own.chosen_sources d sigs p bits false i es ≡ nodes (counts d) (barred_of rest (map (sourced d sigs p) es))
  barred_from p bits [] i [] t = refl
  barred_from p bits (q ∷ rest) i [] t = refl
  barred_from p bits [] i (e ∷ es) t =
      chosen_step p bits false true i e es (barred_of [] (map (sourced d sigs p) es)) (told_at bits [] false i t) (barred_from p bits [] (suc i) es (tail_end bits i t))
  barred_from p bits (q ∷ rest) i (e ∷ es) t =
      chosen_step p bits false (not q) i e es (barred_of rest (map (sourced d sigs p) es)) (told_at bits (q ∷ rest) false i t) (barred_from p bits rest (suc i) es (tail_next bits rest i q t))

  at_first : (bits : List Bool) → Tail bits 0 bits
  at_first bits j = ap (nth bits) (omega arith)

  pub reached_are : (p : Place) (bits : List Bool) (es : List E) → own.chosen_sources d sigs p bits true 0 es ≡ nodes (counts d) (reached_of bits (map (sourced d sigs p) es))
  reached_are p bits es = reached_from p bits bits 0 es (at_first bits)

  pub barred_are : (p : Place) (bits : List Bool) (es : List E) → own.chosen_sources d sigs p bits false 0 es ≡ nodes (counts d) (barred_of bits (map (sourced d sigs p) es))
  barred_are p bits es = barred_from p bits bits 0 es (at_first bits)
