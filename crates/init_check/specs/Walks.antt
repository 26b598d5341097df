-- What the walks through a body push: nodes of its graph.
use Rattle.std.specs.Prelude.{◌≡◌, ℕ, suc, ◌==◌, ◌<◌, ◌^◌, not, Bool, true, false, List, [], ◌∷◌, ◌++◌, map, Option, Some, None, if◌then◌else◌}
use Rattle.ls_ast.specs.declared.tree.Case.{Case}
use Rattle.ls_ast.specs.declared.tree.Form.{Form, fold-Form}
use Rattle.ls_places.specs.Clocks.{is_function}
use Rattle.ls_places.specs.Patterns.{joined}
use Rattle.ls_places.specs.Places.{Place}
use Rattle.ls_places.specs.Search.{E, nth, start_of}
use Rattle.ls_places.specs.declared.definition.Definition.{Definition}
use Rattle.ls_places.specs.declared.places.Frame.{Frame}
use Rattle.ls_places.specs.declared.places.Frame.TheVariants as frame
use Rattle.ls_places.specs.declared.places.Start.{Start}
use Rattle.ls_places.specs.declared.places.Variable.{Variable}
use Rattle.ls_sig.specs.declared.binder.Binder.{Binder}
use Rattle.ls_sig.specs.declared.binder.Binder.TheVariants as b
use Rattle.ls_sig.specs.declared.binder.Note.{Note}
use Rattle.ls_sig.specs.declared.sigs.InitSig.{InitSig}
use Rattle.place_tables.specs.Tables.{param_in}
use Rattle.init_rules.specs.Bits.{holds_reset, leaves_reset}
use Rattle.init_rules.specs.Flow.{Flow, Sourced, called_flow, expr_flow, form_flow, owns, sourced, used_flow}
use Rattle.init_rules.specs.Nodes.{counts, nodes, param_node, start_node, total, var_node}

-- the nodes of a graph are numbers of 32 bits
abbrev pub fits : Definition → Type 0
fits d = total (counts d) < 2 ^ 32

-- ---- names

abbrev pub param_nodes : Definition → Option ℕ → List ℕ
param_nodes d None = []
param_nodes d (Some k) = param_node (counts d) k ∷ []

abbrev pub name_nodes : Definition → Binder → ℕ → List ℕ
name_nodes d (b.Var k) x = var_node (counts d) k ∷ []
name_nodes d (b.Param k) x = param_nodes d (param_in x d.params 0)
name_nodes d _ x = []

abbrev pub started_nodes : Definition → ℕ → Option Start → List ℕ
started_nodes d k None = 0 ∷ []
started_nodes d k (Some s) = start_node (counts d) k ∷ []

abbrev pub start_nodes : Definition → ℕ → Variable → List ℕ
start_nodes d k w = started_nodes d k (start_of w d.places.starts)

abbrev pub if_nodes : Bool → List ℕ → List ℕ
if_nodes c xs = if c then xs else []

abbrev pub last_sources_of : Definition → ℕ → Option Variable → List ℕ
last_sources_of d k None = []
last_sources_of d k (Some w) = start_nodes d k w

abbrev pub last_sources : Definition → Binder → List ℕ
last_sources d (b.Var k) = last_sources_of d k (nth d.places.vars k)
last_sources d _ = []

abbrev pub last_zeros_of : Definition → Place → ℕ → Option Variable → List ℕ
last_zeros_of d p k None = []
last_zeros_of d p k (Some w) = var_node (counts d) k ∷ if_nodes (leaves_reset p w.place) (start_nodes d k w)

abbrev pub last_zeros : Definition → Place → Binder → List ℕ
last_zeros d p (b.Var k) = last_zeros_of d p k (nth d.places.vars k)
last_zeros d p _ = []

abbrev pub if_one : Bool → List ℕ
if_one c = if_nodes c (0 ∷ [])

abbrev pub is_reset : ℕ → Frame → Bool
is_reset r (frame.Reset q) = r == q
is_reset r (frame.Arm m j) = false

-- an answer that is only yes where a `reset` is there
abbrev pub IsHeld : Bool → ℕ → Place → Type 0
IsHeld t r p = t ≡ true → holds_reset r p ≡ true

-- ---- arguments

-- whether a bit is 1, or 0, as is wanted; where none is there it is 0
abbrev pub told : Bool → Option Bool → Bool
told want None = not want
told want (Some bit) = if want then bit else not bit

module _ (d : Definition) (sigs : List InitSig) where
  abbrev pub sources : Place → E → List ℕ
  sources p e = nodes (counts d) (sourced d sigs p e).sources

  abbrev pub zeros : Place → E → List ℕ
  zeros p e = nodes (counts d) (sourced d sigs p e).zeros

  abbrev pub all_sources : Place → List E → List ℕ
  all_sources p es = joined (map (sources p) es)

  abbrev pub all_zeros : Place → List E → List ℕ
  all_zeros p es = joined (map (zeros p) es)

  abbrev pub choice_sources : Place → List (Case × E) → List ℕ
  choice_sources p cs = joined (map (λ (c : Case × E). sources p c.1) cs)

  abbrev pub choice_zeros : Place → List (Case × E) → List ℕ
  choice_zeros p cs = joined (map (λ (c : Case × E). zeros p c.1) cs)

  -- those of the arguments, from the i-th on, whose bits are as wanted
  abbrev pub chosen_sources : Place → List Bool → Bool → ℕ → List E → List ℕ
  chosen_sources p bits want i [] = []
  chosen_sources p bits want i (e ∷ es) = if_nodes (told want (nth bits i)) (sources p e) ++ chosen_sources p bits want (suc i) es

  -- ---- forms

  abbrev pub flow_of : Place → Form Note → Note → Flow
  flow_of p = fold-Form Note (Note → Flow) Sourced (form_flow d sigs p) (expr_flow d sigs)

  abbrev pub form_sources : Place → Form Note → Note → List ℕ
  form_sources p form n = nodes (counts d) (flow_of p form n).sources

  abbrev pub form_zeros : Place → Form Note → Note → List ℕ
  form_zeros p form n = nodes (counts d) (flow_of p form n).zeros

  abbrev pub used_sources : Note → ℕ → List ℕ
  used_sources n x = nodes (counts d) (used_flow d sigs n n.bound x).sources

  abbrev pub used_zeros : Note → ℕ → List ℕ
  used_zeros n x = nodes (counts d) (used_flow d sigs n n.bound x).zeros

  abbrev pub call_flow_of : Place → Bool → Note → List E → Flow
  call_flow_of p run n args = called_flow d sigs run n (map (sourced d sigs p) args)

  abbrev pub call_sources : Place → Bool → Note → List E → List ℕ
  call_sources p run n args = nodes (counts d) (call_flow_of p run n args).sources

  abbrev pub call_zeros : Place → Bool → Note → List E → List ℕ
  call_zeros p run n args = nodes (counts d) (call_flow_of p run n args).zeros

  -- the call of a definition, by its signature
  abbrev pub defined_sources : Place → Option InitSig → List E → List ℕ
  defined_sources p None args = []
  defined_sources p (Some s) args = if_one s.own ++ chosen_sources p s.reaches true 0 args

  -- of a parameter
  abbrev pub applied_sources : Place → Bool → List E → List ℕ
  applied_sources p run args = if run then [] else all_sources p args

  -- what calls ask to be 0, but for what their arguments ask
  abbrev pub barred_nodes : Place → Option InitSig → List E → List ℕ
  barred_nodes p None args = all_sources p args
  barred_nodes p (Some s) args = chosen_sources p s.may false 0 args

  abbrev pub asked_nodes : Place → Bool → Binder → List E → List ℕ
  asked_nodes p run (b.Def k) args = barred_nodes p (nth sigs k) args
  asked_nodes p run _ args = if_nodes run (all_sources p args)

  abbrev pub call_asked : Place → Bool → Note → List E → List ℕ
  call_asked p run n args = if is_function n then if_one (owns d sigs n.bound) ++ all_sources p args else asked_nodes p run n.bound args
