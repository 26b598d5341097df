-- The cells of an output line.
use Rattle.std.specs.Prelude.{Bool as Truth, if◌then◌else◌, List, [], ◌∷◌, ◌++◌, map, length, replicate, Option, None, Some}
use Rattle.ls_value.specs.declared.leaf.Leaf.{Leaf}
use Rattle.line_io.specs.declared.form.Cell.{Cell}
use Rattle.line_io.specs.declared.form.Cell.TheVariants.{Absent, NotEmitted, Leaf as Given}
use Rattle.ls_terms.specs.declared.types.TypeTerm.{TypeTerm, fold-TypeTerm}
use Rattle.ls_terms.specs.declared.types.TypeTerm.TheOpen.{TypeTerm-F}
use Rattle.kahn_model.specs.declared.cell.Value.{Value}
use Rattle.kahn_model.specs.declared.cell.Cell.{Cell as Result}
use Rattle.kahn_model.specs.declared.cell.Cell.TheVariants as cell
use Rattle.kahn_model.specs.Values.{nil, parts, the_leaf}
use Rattle.node_lines.specs.Leaves.{leaves}

-- the leaves of parts, one after the other; a part that is not there is Nil
abbrev pub part_leaves : List (Value → List Leaf) → List Value → List Leaf
part_leaves [] ws = []
part_leaves (f ∷ fs) [] = f nil ++ part_leaves fs []
part_leaves (f ∷ fs) (w ∷ ws) = f w ++ part_leaves fs ws

abbrev pub value_step : TypeTerm-F (Value → List Leaf) → Value → List Leaf
value_step (TypeTerm-F.Tuple fs) w = part_leaves fs (parts w)
value_step (TypeTerm-F.Signal f) w = f w
value_step (TypeTerm-F.Var x) w = []
value_step (TypeTerm-F.Arrow kind all to) w = []
value_step _ w = the_leaf w ∷ []

-- the leaves of a value of a type: Nil has Nil at each leaf of a tuple
abbrev pub value_leaves : TypeTerm → Value → List Leaf
value_leaves = fold-TypeTerm (Value → List Leaf) value_step

-- what a line has as `.`: a signal that is not emitted, or what is absent
abbrev pub dot : Truth → Cell
dot silent = if silent then NotEmitted else Absent

-- the same cell for each leaf
abbrev pub each : Cell → TypeTerm → List Cell
each c t = replicate (length (leaves t)) c

-- The cells of a result of this type, unit included. One that is not known counts as absent; so does a choice of arms, which no
-- result is.
abbrev pub result_cells : TypeTerm → Option Result → List Cell
result_cells t (Some (cell.Present w)) = map Given (value_leaves t w)
result_cells t (Some cell.Silent) = each NotEmitted t
result_cells t (Some cell.Absent) = each Absent t
result_cells t (Some (cell.Chosen arm restart)) = each Absent t
result_cells t None = each Absent t
