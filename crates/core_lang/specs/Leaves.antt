-- The leaves of cells as conditions.
use Rattle.std.specs.Prelude.{Bool as Truth, false, Option, None, Some}
use Rattle.ls_value.specs.declared.leaf.Leaf.{Leaf}
use Rattle.ls_value.specs.declared.leaf.Leaf.TheVariants.{Nil}
use Rattle.step_code.specs.Leaves.{tested, is_true}

-- the leaf of a cell, None being absent
abbrev pub leaf_of : Option Leaf → Leaf
leaf_of None = Nil
leaf_of (Some leaf) = leaf

-- the cell is present and holds the leaf, which is not Nil
abbrev pub is_held : Option Leaf → Leaf → Truth
is_held None leaf = false
is_held (Some a) leaf = is_true (tested a leaf)
