-- The shape that the first byte of a leaf tells.
use Rattle.std.specs.Prelude.{ℕ, ◌==◌, ◌||◌, if◌then◌else◌}
use Rattle.ls_value.specs.declared.leaf.Shape.{Shape}
use Rattle.ls_value.specs.declared.leaf.Shape.TheVariants.{Int, Bool, Char, Text, Unit as Nothing}

-- of a leaf that is no constructor: a quote begins a character, a double quote a string, `t` and `f` a truth value, `(` is
-- unit's, and a digit or `-` begins an integer
abbrev pub shape_by_first : ℕ → Shape
shape_by_first b = if b == 39 then Char else (if b == 34 then Text else (if b == 116 || b == 102 then Bool else (if b == 40 then Nothing else Int)))
