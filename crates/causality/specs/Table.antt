-- The items of rows, by a table of all nodes.
use Rattle.std.specs.Prelude.{◌≡◌, ℕ, List, map, slice_index_or, Option, Some, None}
use Rattle.digraph.specs.Graph.{In}
use Rattle.ls_places.specs.declared.definition.Definition.{Definition}
use Rattle.ls_places.specs.declared.definition.Key.{Key}
use Rattle.ls_sig.specs.declared.sigs.Item.{Item}
use Rattle.causality_rules.specs.Items.{items, key_of}
use Rattle.causality.specs.Items.{Rowed}
use Rattle.causality.specs.Nodes.{counts, key_node, node_at}
use Rattle.causality.specs.declared.nodes.Node.TheVariants as node

abbrev pub item_at : List (Option Item) → ℕ → Option Item
item_at table x = slice_index_or table x None

abbrev pub rowed : Item → Key → Rowed
rowed i k = (i, k)

-- the table has an item for the row of each of these, and no other
pub record IsTable (d : Definition) (rows : List Rowed) (table : List (Option Item)) : Type 0 where
  pub only : (x : ℕ) (i : Item) → item_at table x ≡ Some i → (k : Key) × In (rowed i k) rows × (key_node (counts d) k ≡ x)
  pub all : (i : Item) (k : Key) → In (rowed i k) rows → (j : Item) × (item_at table (key_node (counts d) k) ≡ Some j)

-- each of these rows is that of an item, and has a node
abbrev pub AreItems : Definition → List Key → Type 0
AreItems d ks = (k : Key) → In k ks → (i : Item) × In i (items d) × (key_of d i ≡ k) × (node_at (counts d) (key_node (counts d) k) ≡ node.Row k)

-- items of these rows
pub record AreOf (d : Definition) (found : List Item) (ks : List Key) : Type 0 where
  pub rows : map (key_of d) found ≡ ks
  pub known : (i : Item) → In i found → In i (items d)
