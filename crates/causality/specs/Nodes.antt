-- The nodes of the graph of a body's reads: a node for each row, and one for each whole expression.
use Rattle.std.specs.Prelude.{ℕ, zero, suc, ◌+◌, ◌-◌, ◌<◌, ◌^◌, List, [], ◌∷◌, ◌++◌, map, length, nat_lt, if◌then◌else◌}
use Rattle.ls_places.specs.Search.{count_up}
use Rattle.ls_places.specs.declared.definition.Definition.{Definition}
use Rattle.ls_places.specs.declared.definition.Key.{Key}
use Rattle.ls_places.specs.declared.definition.Key.TheVariants as key
use Rattle.causality.specs.declared.nodes.Node.{Node}
use Rattle.causality.specs.declared.nodes.Node.TheVariants as node

-- how many parameters, variables, clock names, resets and whole expressions a body has
pub record Counts : Type 0 where
  pub params : ℕ
  pub vars : ℕ
  pub names : ℕ
  pub resets : ℕ
  pub exprs : ℕ

abbrev pub counts : Definition → Counts
counts d = record {
  params = length d.params;
  vars = length d.places.vars;
  names = length d.places.names;
  resets = length d.places.resets;
  exprs = length d.places.exprs;
}

abbrev pub total : Counts → ℕ
total n = 1 + n.vars + n.vars + n.names + n.resets + n.exprs

-- the nodes of a graph are numbers of 32 bits, and so are clock names
abbrev pub fits : Definition → Type 0
fits d = (total (counts d) < 2 ^ 32) × (length d.params + length d.places.names < 2 ^ 32)

-- ---- the number of a node; 0 stands for what is not there

abbrev pub key_node : Counts → Key → ℕ
key_node n (key.Var k) = if nat_lt k n.vars then 1 + k else 0
key_node n (key.Start k) = if nat_lt k n.vars then 1 + n.vars + k else 0
key_node n (key.Name m) = if nat_lt m n.params then 0 else (if nat_lt (m - n.params) n.names then 1 + n.vars + n.vars + (m - n.params) else 0)
key_node n (key.Reset r) = if nat_lt r n.resets then 1 + n.vars + n.vars + n.names + r else 0

abbrev pub whole_node : Counts → ℕ → ℕ
whole_node n k = if nat_lt k n.exprs then 1 + n.vars + n.vars + n.names + n.resets + k else 0

-- ---- the nodes in the order of their numbers

abbrev pub var_at : ℕ → Node
var_at k = node.Row (key.Var k)

abbrev pub start_at : ℕ → Node
start_at k = node.Row (key.Start k)

abbrev pub name_at : ℕ → Node
name_at m = node.Row (key.Name m)

abbrev pub reset_at : ℕ → Node
reset_at r = node.Row (key.Reset r)

abbrev pub whole_at : ℕ → Node
whole_at k = node.Whole k

abbrev pub all_nodes : Counts → List Node
all_nodes n = node.Nothing ∷ (map var_at (count_up n.vars 0) ++ (map start_at (count_up n.vars 0)
    ++ (map name_at (count_up n.names n.params) ++ (map reset_at (count_up n.resets 0) ++ map whole_at (count_up n.exprs 0)))))

abbrev pub node_in : List Node → ℕ → Node
node_in [] x = node.Nothing
node_in (n ∷ ns) zero = n
node_in (n ∷ ns) (suc x) = node_in ns x

-- the node of a number
abbrev pub node_at : Counts → ℕ → Node
node_at n = node_in (all_nodes n)
