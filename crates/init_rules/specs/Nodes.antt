-- The nodes of the graph of a body's bits, and what each reads.
use Rattle.std.specs.Prelude.{◌≡◌, ℕ, zero, suc, ◌+◌, List, [], ◌∷◌, ◌++◌, map, length, Option, Some, None, if◌then◌else◌, nat_lt}
use Rattle.ls_sig.specs.declared.binder.Note.{Note}
use Rattle.ls_sig.specs.declared.sigs.InitSig.{InitSig}
use Rattle.ls_places.specs.declared.definition.Definition.{Definition}
use Rattle.ls_places.specs.declared.places.Named.{Named}
use Rattle.ls_places.specs.declared.places.Named.TheVariants as named
use Rattle.ls_places.specs.declared.places.Right.{Right}
use Rattle.ls_places.specs.declared.places.Right.TheVariants as rhs
use Rattle.ls_places.specs.declared.places.Site.{Site}
use Rattle.ls_places.specs.declared.places.Start.{Start}
use Rattle.ls_places.specs.declared.places.Transition.{Transition}
use Rattle.ls_places.specs.declared.places.Variable.{Variable}
use Rattle.ls_places.specs.declared.places.Whole.{Whole}
use Rattle.ls_places.specs.Patterns.{joined}
use Rattle.ls_places.specs.Ranges.{InRange}
use Rattle.ls_places.specs.Search.{count_up, nth, sites_of, start_of, whole_of}
use Rattle.init_rules.specs.Slots.{Source, always, from, of_param, of_var, of_start}
use Rattle.init_rules.specs.Bits.{binds_zero}
use Rattle.init_rules.specs.Flow.{sourced, variable_zeros, expr_zeros}

-- how many parameters, variables and whole expressions a body has
pub record Counts : Type 0 where
  pub params : ℕ
  pub vars : ℕ
  pub exprs : ℕ

abbrev pub total : Counts → ℕ
total n = 3 + n.params + n.vars + n.vars + n.exprs

-- 0 is the bit that is 1 always, 1 reads all that have to be 0, and 2 reads nothing and stands for what is not there
abbrev pub param_node : Counts → ℕ → ℕ
param_node n k = if nat_lt k n.params then 3 + k else 2

abbrev pub var_node : Counts → ℕ → ℕ
var_node n k = if nat_lt k n.vars then 3 + n.params + k else 2

abbrev pub start_node : Counts → ℕ → ℕ
start_node n k = if nat_lt k n.vars then 3 + n.params + n.vars + k else 2

abbrev pub whole_node : Counts → ℕ → ℕ
whole_node n k = if nat_lt k n.exprs then 3 + n.params + n.vars + n.vars + k else 2

abbrev pub node : Counts → Source → ℕ
node n always = 0
node n (from (of_param k)) = param_node n k
node n (from (of_var k)) = var_node n k
node n (from (of_start k)) = start_node n k

abbrev pub nodes : Counts → List Source → List ℕ
nodes n = map {A = Source} {B = ℕ} (node n)

abbrev pub counts : Definition → Counts
counts d = record { params = length d.params; vars = length d.places.vars; exprs = length d.places.exprs }

abbrev pub empty_rows : ℕ → List (List ℕ)
empty_rows zero = []
empty_rows (suc k) = [] ∷ empty_rows k

module _ (n : Counts) where
  -- what reads the right side of an equation reads its node
  abbrev pub right_row : Right → List ℕ
  right_row (rhs.Part p k) = whole_node n k ∷ []
  right_row (rhs.Whole k) = whole_node n k ∷ []
  right_row (rhs.Pattern x p) = []

  abbrev pub site_row : Site → List ℕ
  site_row s = right_row s.right

  abbrev pub sites_row : List Site → List ℕ
  sites_row all = joined (map site_row all)

  abbrev pub start_row : Option Start → List ℕ
  start_row None = []
  start_row (Some s) = whole_node n s.right ∷ []

  abbrev pub guards_row : List Transition → List ℕ
  guards_row gs = map (λ (g : Transition). whole_node n g.cond) gs

  abbrev pub states_row : List (ℕ × List Transition) → List ℕ
  states_row all = joined (map (λ (s : ℕ × List Transition). guards_row s.1) all)

  abbrev pub named_row : Named → List ℕ
  named_row (named.Clock x) = []
  named_row (named.Match k all p) = whole_node n k ∷ []
  named_row (named.Present xs p) = []
  named_row (named.Active states p) = states_row states
  named_row (named.Tested states p) = states_row states

module _ (d : Definition) (sigs : List InitSig) where
  abbrev n : Counts
  n = counts d

  -- ---- what has to be 0

  abbrev pub expr_zero_row : Whole Note → List ℕ
  expr_zero_row w = nodes n (expr_zeros d sigs w)

  abbrev pub site_zero_row : Site → List ℕ
  site_zero_row s = if binds_zero d s then site_row n s else []

  abbrev pub variable_zero_row : ℕ → List ℕ
  variable_zero_row k = nodes n (variable_zeros d sigs k (nth d.places.vars k))

  abbrev pub zero_row : List ℕ
  zero_row = joined (map expr_zero_row d.places.exprs) ++ (joined (map site_zero_row d.places.sites)
      ++ (joined (map variable_zero_row (count_up (length d.places.vars) 0))
      ++ (joined (map (named_row n) d.places.names) ++ map (whole_node n) d.places.resets)))

  -- ---- what feeds variables, initial equations and whole expressions

  abbrev pub variable_row : ℕ → List ℕ
  variable_row k = sites_row n (sites_of k d.places.sites)

  abbrev pub initial_row : Variable → List ℕ
  initial_row w = start_row n (start_of w d.places.starts)

  abbrev pub whole_row : Whole Note → List ℕ
  whole_row w = nodes n (sourced d sigs w.place w.expr).sources

  abbrev pub rows : List (List ℕ)
  rows = ([] ∷ zero_row ∷ [] ∷ empty_rows n.params) ++ (map variable_row (count_up n.vars 0) ++ (map initial_row d.places.vars ++ map whole_row d.places.exprs))

-- what `find` gives: numbers in range, and the result as the last whole expression
pub record Standing (d : Definition) : Type 0 where
  pub range : InRange d.places
  pub last : ℕ
  pub many : length d.places.exprs ≡ suc last
  pub result : whole_of d last ≡ record { expr = d.result; place = [] }
