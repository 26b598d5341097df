-- The nodes of each kind.
use Rattle.std.specs.Prelude.{ℕ}
use Rattle.ls_places.specs.declared.definition.Key.TheVariants as key
use Rattle.causality.specs.declared.nodes.Kind.{Kind}
use Rattle.causality.specs.declared.nodes.Kind.TheVariants as kind
use Rattle.causality.specs.declared.nodes.Node.{Node}
use Rattle.causality.specs.declared.nodes.Node.TheVariants as node

abbrev pub node_of : Kind → ℕ → Node
node_of kind.Var k = node.Row (key.Var k)
node_of kind.Start k = node.Row (key.Start k)
node_of kind.Name k = node.Row (key.Name k)
node_of kind.Reset k = node.Row (key.Reset k)
node_of kind.Whole k = node.Whole k
