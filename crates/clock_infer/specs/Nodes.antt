-- The sizes of the clocks at expressions, with terms for their variables.
use Rattle.std.specs.Prelude.{ℕ, ◌&&◌, Bool, List, Option, nat_le}
use Rattle.ls_ast.specs.declared.tree.Case.{Case}
use Rattle.ls_ast.specs.declared.tree.Expr.{Expr}
use Rattle.ls_ast.specs.declared.tree.Form.{Form}
use Rattle.ls_terms.specs.declared.clocks.ClockTerm.{ClockTerm}
use Rattle.ls_terms.specs.Clocks.{apply, size}
use Rattle.ls_sig.specs.declared.binder.Note.{Note}
use Rattle.ls_places.specs.declared.places.Whole.{Whole}
use Rattle.term_unify.specs.Terms.{first}
use Rattle.clock_rules.specs.Constraints.{Node}
use Rattle.clock_rules.specs.Facts.{nodes_of}
use Rattle.clock_rules.specs.Layers.{Layer, layers}
use Rattle.clock_rules.specs.Terms.{limit}
use Rattle.clock_conditions.specs.Every.{every}
use Rattle.clock_pairs.specs.Scene.{function}
use Rattle.clock_pairs.specs.Walks as walks

abbrev pub parts : Form Note → List (Expr Note)
parts = walks.parts

abbrev pub branches : List (Case × Expr Note) → List (Expr Note)
branches = walks.branches

abbrev pub maybe : Option (Expr Note) → List (Expr Note)
maybe = walks.maybe

module _ (by : List (ℕ × ClockTerm)) where
  abbrev pub is_small : ClockTerm → Bool
  is_small t = nat_le (size (apply (first by) t)) limit

  abbrev pub layer_small : Layer Note → Bool
  layer_small l = is_small l.note.ck

  abbrev pub node_small : Node → Bool
  node_small n = layer_small n.0

  -- an expression, and all in it
  abbrev pub smalls : Expr Note → Bool
  smalls e = every layer_small (layers Note function e)

  abbrev pub all_small : List (Expr Note) → Bool
  all_small = every smalls

  abbrev pub two_small : Expr Note → Expr Note → Bool
  two_small a b = smalls a && smalls b

  -- all expressions of a definition
  abbrev pub nodes_small : List (Whole Note) → Bool
  nodes_small all = every node_small (nodes_of Note function all)
