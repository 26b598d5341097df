-- Where the bit of an expression comes from, and which bits in it must be 0: the same rules as constraints between slots, in
-- the size of the text.
use Rattle.std.specs.Prelude.{ℕ, not, Bool, true, false, List, [], ◌∷◌, ◌++◌, map, length, Option, Some, None, if◌then◌else◌}
use Rattle.ls_ast.specs.declared.tree.Expr.{Expr-F, fold-Expr}
use Rattle.ls_ast.specs.declared.tree.Form.TheOpen.{Form-F}
use Rattle.ls_places.specs.Patterns.{joined}
use Rattle.ls_places.specs.Places.{Place}
use Rattle.ls_sig.specs.declared.binder.Binder.{Binder}
use Rattle.ls_sig.specs.declared.binder.Binder.TheVariants as b
use Rattle.ls_sig.specs.declared.binder.Note.{Note}
use Rattle.ls_places.specs.declared.places.Named.{Named}
use Rattle.ls_places.specs.declared.places.Named.TheVariants as named
use Rattle.ls_places.specs.declared.places.Right.{Right}
use Rattle.ls_places.specs.declared.places.Right.TheVariants as rhs
use Rattle.ls_places.specs.declared.places.Site.{Site}
use Rattle.ls_places.specs.declared.places.Start.{Start}
use Rattle.ls_places.specs.declared.places.Transition.{Transition}
use Rattle.ls_places.specs.declared.places.Variable.{Variable}
use Rattle.ls_places.specs.declared.places.Whole.{Whole}
use Rattle.ls_sig.specs.declared.sigs.InitSig.{InitSig}
use Rattle.ls_places.specs.declared.definition.Definition.{Definition}
use Rattle.ls_places.specs.Clocks.{choice_parts, is_function}
use Rattle.ls_places.specs.Search.{E, nth, lacks, sites_of, start_of, count_up, whole_of}
use Rattle.init_rules.specs.Slots.{Slot, of_param, of_var, of_start, Source, always, from, System}
use Rattle.init_rules.specs.Bits.{own_of, leaves_reset, binds_zero, param_of}

pub record Flow : Type 0 where
  pub sources : List Source
  pub zeros : List Source

pub record Sourced : Type 0 where
  pub note : Note
  pub sources : List Source
  pub zeros : List Source

abbrev pub no_flow : Flow
no_flow = record { sources = []; zeros = [] }

abbrev pub if_list : Bool → List Source → List Source
if_list c xs = if c then xs else []

abbrev pub sources_of : List Sourced → List Source
sources_of [] = []
sources_of (r ∷ rs) = r.sources ++ sources_of rs

abbrev pub zeros_of : List Sourced → List Source
zeros_of [] = []
zeros_of (r ∷ rs) = r.zeros ++ zeros_of rs

abbrev pub barred_of : List Bool → List Sourced → List Source
barred_of may [] = []
barred_of [] (r ∷ rs) = r.sources ++ barred_of [] rs
barred_of (m ∷ may) (r ∷ rs) = if_list (not m) r.sources ++ barred_of may rs

abbrev pub reached_of : List Bool → List Sourced → List Source
reached_of [] rs = []
reached_of (q ∷ reaches) [] = []
reached_of (q ∷ reaches) (r ∷ rs) = if_list q r.sources ++ reached_of reaches rs

abbrev pub if_always : Bool → List Source
if_always c = if_list c (always ∷ [])

abbrev pub call_flow : Option InitSig → List Sourced → Flow
call_flow None rs = record { sources = []; zeros = sources_of rs ++ zeros_of rs }
call_flow (Some s) rs = record { sources = if_always s.own ++ reached_of s.reaches rs; zeros = barred_of s.may rs ++ zeros_of rs }

abbrev pub function_flow : Bool → List Sourced → Flow
function_flow own rs = record { sources = []; zeros = if_always own ++ (sources_of rs ++ zeros_of rs) }

abbrev pub applied_flow : Bool → List Sourced → Flow
applied_flow true rs = record { sources = []; zeros = sources_of rs ++ zeros_of rs }
applied_flow false rs = record { sources = sources_of rs; zeros = zeros_of rs }

abbrev pub every_flow : Option Sourced → Flow → Flow
every_flow None r = r
every_flow (Some j) r = record { sources = r.sources; zeros = (r.zeros ++ j.zeros) ++ (j.sources ++ r.sources) }

module _ (d : Definition) (sigs : List InitSig) where
  abbrev pub param_flow : Option ℕ → List Source
  param_flow None = []
  param_flow (Some k) = from (of_param k) ∷ []

  abbrev pub name_flow : Binder → ℕ → List Source
  name_flow (b.Var k) x = from (of_var k) ∷ []
  name_flow (b.Param k) x = param_flow (param_of x d.params 0)
  name_flow _ x = []

  abbrev pub started_flow : ℕ → Option Start → List Source
  started_flow k None = always ∷ []
  started_flow k (Some s) = from (of_start k) ∷ []

  abbrev pub last_flow : ℕ → Variable → List Source
  last_flow k w = started_flow k (start_of w d.places.starts)

  abbrev pub last_flows_of : Place → ℕ → Option Variable → Flow
  last_flows_of p k None = no_flow
  last_flows_of p k (Some w) = record { sources = last_flow k w; zeros = from (of_var k) ∷ if_list (leaves_reset p w.place) (last_flow k w) }

  abbrev pub last_flows : Place → Binder → Flow
  last_flows p (b.Var k) = last_flows_of p k (nth d.places.vars k)
  last_flows p _ = no_flow

  abbrev pub head_flow : Bool → Binder → List Sourced → Flow
  head_flow run (b.Def k) rs = call_flow (nth sigs k) rs
  head_flow run bound rs = applied_flow run rs

  abbrev pub owns : Binder → Bool
  owns (b.Def k) = own_of (nth sigs k)
  owns _ = false

  abbrev pub called_flow : Bool → Note → List Sourced → Flow
  called_flow run n rs = if is_function n then function_flow (owns n.bound) rs else head_flow run n.bound rs

  abbrev pub used_flow : Note → Binder → ℕ → Flow
  used_flow n (b.Def k) x = called_flow false n []
  used_flow n bound x = record { sources = name_flow bound x; zeros = [] }

  abbrev pub form_flow : Place → Form-F Note (Note → Flow) Sourced → Note → Flow
  form_flow p (Form-F.Leaf l) n = no_flow
  form_flow p (Form-F.Case x) n = no_flow
  form_flow p (Form-F.Var x) n = used_flow n n.bound x.0
  form_flow p (Form-F.Last x) n = last_flows p n.bound
  form_flow p (Form-F.Asked x) n = no_flow
  form_flow p (Form-F.Op o rs) n = record { sources = sources_of rs; zeros = zeros_of rs }
  form_flow p (Form-F.Tuple rs) n = record { sources = sources_of rs; zeros = zeros_of rs }
  form_flow p (Form-F.Pre e) n = record { sources = always ∷ []; zeros = e.sources ++ e.zeros }
  form_flow p (Form-F.Fby x y) n = record { sources = x.sources; zeros = y.sources ++ (x.zeros ++ y.zeros) }
  form_flow p (Form-F.Init x y) n = record { sources = x.sources; zeros = x.zeros ++ y.zeros }
  form_flow p (Form-F.When e x k) n = record { sources = e.sources; zeros = name_flow n.bound x.0 ++ e.zeros }
  form_flow p (Form-F.Merge x choices) n =
      record { sources = []; zeros = name_flow n.bound x.0 ++ (sources_of (choice_parts choices) ++ zeros_of (choice_parts choices)) }
  form_flow p (Form-F.Call run x rs every) n = every_flow every (called_flow run n rs)

  abbrev pub expr_flow : Expr-F Note (Note → Flow) Sourced → Sourced
  expr_flow e = record { note = e.note; sources = (e.form e.note).sources; zeros = (e.form e.note).zeros }

  abbrev pub sourced : Place → E → Sourced
  sourced p = fold-Expr Note (Note → Flow) Sourced (form_flow p) expr_flow

  -- where the bit of the whole expression of this number comes from
  abbrev pub whole_flow : ℕ → List Source
  whole_flow k = (sourced (whole_of d k).place (whole_of d k).expr).sources

  -- ---- equations and blocks

  abbrev pub right_flow : Right → List Source
  right_flow (rhs.Part pat k) = whole_flow k
  right_flow (rhs.Whole k) = whole_flow k
  right_flow (rhs.Pattern y pat) = []

  abbrev pub sites_flow : List Site → List Source
  sites_flow [] = []
  sites_flow (s ∷ all) = right_flow s.right ++ sites_flow all

  abbrev pub start_flow : Option Start → List Source
  start_flow None = []
  start_flow (Some s) = whole_flow s.right

  abbrev pub initial_flow : Option Variable → List Source
  initial_flow None = []
  initial_flow (Some w) = start_flow (start_of w d.places.starts)

  abbrev pub expr_zeros : Whole Note → List Source
  expr_zeros w = (sourced w.place w.expr).zeros

  abbrev pub site_zeros : Site → List Source
  site_zeros s = if_list (binds_zero d s) (right_flow s.right)

  abbrev pub variable_zeros : ℕ → Option Variable → List Source
  variable_zeros k None = []
  variable_zeros k (Some w) = if_list (not w.signal) (if_list (lacks d (sites_of k d.places.sites)) (last_flow k w))

  abbrev pub guards_flow : List Transition → List Source
  guards_flow [] = []
  guards_flow (g ∷ gs) = whole_flow g.cond ++ guards_flow gs

  abbrev pub states_flow : List (ℕ × List Transition) → List Source
  states_flow [] = []
  states_flow (s ∷ all) = guards_flow s.1 ++ states_flow all

  abbrev pub named_zeros : Named → List Source
  named_zeros (named.Clock x) = []
  named_zeros (named.Match k all p) = whole_flow k
  named_zeros (named.Present xs p) = []
  named_zeros (named.Active states p) = states_flow states
  named_zeros (named.Tested states p) = states_flow states

  abbrev pub numbers : List ℕ
  numbers = count_up (length d.places.vars) 0

  abbrev pub body_zeros : List Source
  body_zeros = joined (map expr_zeros d.places.exprs) ++ (joined (map site_zeros d.places.sites)
      ++ (joined (map (λ k. variable_zeros k (nth d.places.vars k)) numbers)
      ++ (joined (map named_zeros d.places.names) ++ joined (map whole_flow d.places.resets))))

  abbrev pub fed : Slot → List Source
  fed (of_param k) = []
  fed (of_var k) = sites_flow (sites_of k d.places.sites)
  fed (of_start k) = initial_flow (nth d.places.vars k)

  -- the constraints of a body
  abbrev pub system : System
  system = record { feeds = fed; zeros = body_zeros; result = (sourced [] d.result).sources }
