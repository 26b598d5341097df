-- Numbers of items, by an order of the nodes.
use Rattle.std.specs.Prelude.{◌≡◌, ℕ, ◌<◌, List, length, slice_index}
use Rattle.digraph.specs.Graph.{In}
use Rattle.digraph.specs.Numbering.{place, same_number}
use Rattle.ls_places.specs.declared.definition.Definition.{Definition}
use Rattle.ls_sig.specs.declared.sigs.Item.{Item}
use Rattle.causality.specs.Items.{Rowed}
use Rattle.causality.specs.Nodes.{counts, key_node}

-- a table has the place of each node of an order
abbrev pub ArePlaces : List ℕ → List ℕ → Type 0
ArePlaces at order = (x : ℕ) → x < length at → In x order → slice_index at x ≡ place same_number order x

-- an item with the number of its row
abbrev pub ranked : Definition → List ℕ → Rowed → Item × ℕ
ranked d at r = (r.0, slice_index at (key_node (counts d) r.1))
