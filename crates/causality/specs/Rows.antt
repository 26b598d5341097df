-- What each node of the graph reads. A row reads other rows, and the nodes of the whole expressions that it is computed from,
-- so that a pattern of n names costs n and the size of its expression.
use Rattle.std.specs.Prelude.{ℕ, ◌+◌, ◌-◌, List, [], ◌∷◌, ◌++◌, map, length, nat_lt, Option, Some, None, if◌then◌else◌}
use Rattle.ls_places.specs.Patterns.{joined}
use Rattle.ls_places.specs.Places.{Place}
use Rattle.ls_places.specs.Search.{nth, sites_of, start_of}
use Rattle.ls_places.specs.declared.definition.Definition.{Definition}
use Rattle.ls_places.specs.declared.definition.Key.{Key}
use Rattle.ls_places.specs.declared.definition.Key.TheVariants as key
use Rattle.ls_places.specs.declared.places.Named.{Named}
use Rattle.ls_places.specs.declared.places.Named.TheVariants as named
use Rattle.ls_places.specs.declared.places.Right.{Right}
use Rattle.ls_places.specs.declared.places.Right.TheVariants as rhs
use Rattle.ls_places.specs.declared.places.Site.{Site}
use Rattle.ls_places.specs.declared.places.Start.{Start}
use Rattle.ls_places.specs.declared.places.Transition.{Transition}
use Rattle.ls_places.specs.declared.places.Variable.{Variable}
use Rattle.causality_rules.specs.Reads.{missing_rows, mode_rows, place_rows, present_clock, reset_rows, signal_rows, whole_rows}
use Rattle.causality.specs.Nodes.{all_nodes, counts, key_node, whole_node}
use Rattle.causality.specs.declared.nodes.Node.{Node}
use Rattle.causality.specs.declared.nodes.Node.TheVariants as node

-- ---- the whole expressions of equations and blocks

abbrev pub right_wholes : Right → List ℕ
right_wholes (rhs.Part pat k) = k ∷ []
right_wholes (rhs.Whole k) = k ∷ []
right_wholes (rhs.Pattern y pat) = []

abbrev pub site_wholes : Site → List ℕ
site_wholes s = right_wholes s.right

abbrev pub sites_wholes : List Site → List ℕ
sites_wholes all = joined (map site_wholes all)

abbrev pub started_wholes : Option Start → List ℕ
started_wholes None = []
started_wholes (Some s) = s.right ∷ []

abbrev pub guard_wholes : List Transition → List ℕ
guard_wholes = map {A = Transition} {B = ℕ} (λ g. g.cond)

abbrev pub state_wholes : List (ℕ × List Transition) → List ℕ
state_wholes all = joined (map (λ (s : ℕ × List Transition). guard_wholes s.1) all)

abbrev pub block_wholes : Option Named → List ℕ
block_wholes (Some (named.Match k all p)) = k ∷ []
block_wholes (Some (named.Active states p)) = state_wholes states
block_wholes _ = []

abbrev pub condition_wholes : Option ℕ → List ℕ
condition_wholes None = []
condition_wholes (Some k) = k ∷ []

module _ (d : Definition) where
  -- ---- the rows that a row reads but for its whole expressions

  abbrev pub right_keys : Place → Right → List Key
  right_keys p (rhs.Part pat k) = []
  right_keys p (rhs.Whole k) = []
  right_keys p (rhs.Pattern y pat) = signal_rows d p y

  abbrev pub site_keys : Site → List Key
  site_keys s = place_rows s.place ++ right_keys s.place s.right

  abbrev pub sites_keys : List Site → List Key
  sites_keys all = joined (map site_keys all)

  abbrev pub variable_keys : ℕ → Option Variable → List Key
  variable_keys x None = []
  variable_keys x (Some w) = (place_rows w.place ++ missing_rows d x w) ++ sites_keys (sites_of x d.places.sites)

  abbrev pub started_keys : Place → Option Start → List Key
  started_keys p None = []
  started_keys p (Some s) = reset_rows p

  abbrev pub initial_keys : Option Variable → List Key
  initial_keys None = []
  initial_keys (Some w) = started_keys w.place (start_of w d.places.starts)

  abbrev pub block_keys : ℕ → Option Named → List Key
  block_keys m None = []
  block_keys m (Some (named.Clock x)) = []
  block_keys m (Some (named.Match k all p)) = place_rows p
  block_keys m (Some (named.Present xs p)) = place_rows p ++ (present_clock d xs p ++ joined (map (signal_rows d p) xs))
  block_keys m (Some (named.Active states p)) = key.Name (m + 1) ∷ (place_rows p ++ mode_rows d m p)
  block_keys m (Some (named.Tested states p)) = place_rows p ++ mode_rows d (m - 1) p

  abbrev pub name_keys : ℕ → List Key
  name_keys m = if nat_lt m (length d.params) then [] else block_keys m (nth d.places.names (m - length d.params))

  abbrev pub keys : Key → List Key
  keys (key.Var x) = variable_keys x (nth d.places.vars x)
  keys (key.Start x) = initial_keys (nth d.places.vars x)
  keys (key.Name m) = name_keys m
  keys (key.Reset r) = []

  -- ---- its whole expressions

  abbrev pub variable_wholes : ℕ → Option Variable → List ℕ
  variable_wholes x None = []
  variable_wholes x (Some w) = sites_wholes (sites_of x d.places.sites)

  abbrev pub initial_wholes : Option Variable → List ℕ
  initial_wholes None = []
  initial_wholes (Some w) = started_wholes (start_of w d.places.starts)

  abbrev pub name_wholes : ℕ → List ℕ
  name_wholes m = if nat_lt m (length d.params) then [] else block_wholes (nth d.places.names (m - length d.params))

  abbrev pub wholes : Key → List ℕ
  wholes (key.Var x) = variable_wholes x (nth d.places.vars x)
  wholes (key.Start x) = initial_wholes (nth d.places.vars x)
  wholes (key.Name m) = name_wholes m
  wholes (key.Reset r) = condition_wholes (nth d.places.resets r)

  -- ---- the graph

  abbrev pub key_nodes : List Key → List ℕ
  key_nodes = map {A = Key} {B = ℕ} (key_node (counts d))

  abbrev pub whole_nodes : List ℕ → List ℕ
  whole_nodes = map {A = ℕ} {B = ℕ} (whole_node (counts d))

  abbrev pub whole_row : ℕ → List ℕ
  whole_row k = key_nodes (whole_rows d k)

  abbrev pub node_row : Node → List ℕ
  node_row node.Nothing = []
  node_row (node.Row k) = key_nodes (keys k) ++ whole_nodes (wholes k)
  node_row (node.Whole k) = whole_row k

  abbrev pub rows : List (List ℕ)
  rows = map node_row (all_nodes (counts d))
