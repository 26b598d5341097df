-- The leaves of a type, in order: one for a type without parts, those of the parts for a tuple, those of what it carries for a
-- signal. A function and a variable have none: neither is in the type of a node that runs.
use Rattle.std.specs.Prelude.{ℕ, zero, suc, ◌+◌, Bool as Truth, true, false, if◌then◌else◌, List, [], ◌∷◌, length}
use Rattle.ls_value.specs.declared.leaf.Shape.{Shape}
use Rattle.ls_value.specs.declared.leaf.Shape.TheVariants.{Int, Bool, Char, Text, Enum, Unit as Nothing}
use Rattle.ls_terms.specs.declared.types.TypeTerm.{TypeTerm, out-TypeTerm, fold-TypeTerm}
use Rattle.ls_terms.specs.declared.types.TypeTerm.TheOpen.{TypeTerm-F}
use Rattle.ls_places.specs.Patterns.{joined}

abbrev pub leaves_step : TypeTerm-F (List Shape) → List Shape
leaves_step TypeTerm-F.Int = Int ∷ []
leaves_step TypeTerm-F.Bool = Bool ∷ []
leaves_step TypeTerm-F.Char = Char ∷ []
leaves_step TypeTerm-F.Text = Text ∷ []
leaves_step TypeTerm-F.Unit = Nothing ∷ []
leaves_step (TypeTerm-F.Enum e) = Enum e ∷ []
leaves_step (TypeTerm-F.Tuple all) = joined all
leaves_step (TypeTerm-F.Signal of) = of
leaves_step (TypeTerm-F.Var x) = []
leaves_step (TypeTerm-F.Arrow kind all to) = []

abbrev pub leaves : TypeTerm → List Shape
leaves = fold-TypeTerm (List Shape) leaves_step

abbrev pub unit_at : {X : Type 0} → TypeTerm-F X → Truth
unit_at TypeTerm-F.Unit = true
unit_at _ = false

-- the whole type is unit
abbrev pub is_unit : TypeTerm → Truth
is_unit t = unit_at (out-TypeTerm t)

-- the fields that a parameter has in a line: one for each leaf, and none where it is a unit
abbrev pub input_leaves : TypeTerm → List Shape
input_leaves t = if is_unit t then [] else leaves t

-- the number of fields before those of the parameter m
abbrev pub field_of : List TypeTerm → ℕ → ℕ
field_of [] m = 0
field_of (t ∷ ts) zero = 0
field_of (t ∷ ts) (suc m) = length (input_leaves t) + field_of ts m
