-- Leaves as conditions.
use Rattle.std.specs.Prelude.{Bool as Truth, true, false, unwrap_or}
use Rattle.ls_value.specs.declared.leaf.Leaf.{Leaf}
use Rattle.ls_value.specs.declared.leaf.Leaf.TheVariants.{Nil, Bool}
use Rattle.ls_ops.specs.Values.{equality}

-- the two are one leaf, which is not Nil
abbrev pub is_same : Leaf → Leaf → Truth
is_same a b = unwrap_or (equality a b) false

-- whether the first leaf is the second: Nil where the first is Nil, whatever the second is
abbrev pub tested : Leaf → Leaf → Leaf
tested Nil leaf = Nil
tested a leaf = Bool (is_same a leaf)

abbrev pub is_true : Leaf → Truth
is_true (Bool b) = b
is_true _ = false

-- the two are one leaf, which may be Nil
abbrev pub leaf_eq : Leaf → Leaf → Truth
leaf_eq Nil Nil = true
leaf_eq a b = is_same a b
