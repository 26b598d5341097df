-- Which leaves and slots have which shape, and which constructors are there.
use Rattle.std.specs.Prelude.{ℕ, ◌==◌, ◌&&◌, nat_lt, Bool as Truth, true, false, List, [], ◌∷◌, Option, None, Some, length, slice_get}
use Rattle.std.specs.List.{list_all}
use Rattle.std.specs.Option.{option_map_or}
use Rattle.ls_base.specs.declared.Name.{Name}
use Rattle.ls_value.specs.declared.leaf.Leaf.{Leaf}
use Rattle.ls_value.specs.declared.leaf.Leaf.TheVariants as leaf
use Rattle.ls_value.specs.declared.leaf.Shape.{Shape}
use Rattle.ls_value.specs.declared.leaf.Shape.TheVariants as shape
use Rattle.ls_value.specs.Spelling.{shape_of}
use Rattle.ls_ops.specs.declared.kinds.OpSign.{OpSign}
use Rattle.ls_ops.specs.declared.kinds.OpSign.TheVariants.{Ints, IntPred, Bools, CharPred, CharInt, Same, Choice}
use Rattle.step_code.specs.declared.parts.Slot.{Slot}
use Rattle.step_code.specs.declared.parts.SlotKind.{SlotKind}
use Rattle.step_code.specs.declared.parts.SlotKind.TheVariants as kind
use Rattle.step_code.specs.Leaves.{leaf_eq}

abbrev pub same_shape : Shape → Shape → Truth
same_shape shape.Int shape.Int = true
same_shape shape.Bool shape.Bool = true
same_shape shape.Char shape.Char = true
same_shape shape.Text shape.Text = true
same_shape (shape.Enum t) (shape.Enum u) = t == u
same_shape shape.Unit shape.Unit = true
same_shape _ _ = false

-- Nil fits every shape
abbrev pub fits : Leaf → Shape → Truth
fits l s = option_map_or (λ own. same_shape own s) (shape_of l) true

-- the enumeration has a constructor at the place
abbrev pub has_case : List (List Name) → ℕ → ℕ → Truth
has_case cases t k = option_map_or (λ names. nat_lt k (length names)) (slice_get cases t) false

-- the number of an enumeration, and the place of a constructor, are those of one
abbrev pub is_known_leaf : List (List Name) → Leaf → Truth
is_known_leaf cases (leaf.Enum t k) = has_case cases t k
is_known_leaf cases _ = true

abbrev pub is_known_shape : List (List Name) → Shape → Truth
is_known_shape cases (shape.Enum t) = nat_lt t (length cases)
is_known_shape cases _ = true

abbrev pub kind_at : List Slot → ℕ → SlotKind
kind_at slots k = option_map_or (λ (s : Slot). s.kind) (slice_get slots k) kind.Plain

abbrev pub shape_at : List Slot → ℕ → Shape
shape_at slots k = option_map_or (λ (s : Slot). s.shape) (slice_get slots k) shape.Unit

abbrev pub mem_of : SlotKind → Option Leaf
mem_of (kind.Mem l) = Some l
mem_of _ = None

abbrev pub is_arg : SlotKind → Truth
is_arg kind.Arg = true
is_arg _ = false

abbrev pub is_mem : SlotKind → Truth
is_mem (kind.Mem l) = true
is_mem _ = false

abbrev pub same_mem : Option Leaf → Option Leaf → Truth
same_mem None None = true
same_mem (Some a) (Some b) = leaf_eq a b
same_mem _ _ = false

-- what a slot holds before the first step is there, and of its shape
abbrev pub mem_known : List (List Name) → SlotKind → Truth
mem_known cases (kind.Mem l) = is_known_leaf cases l
mem_known cases _ = true

abbrev pub mem_fits : SlotKind → Shape → Truth
mem_fits (kind.Mem l) s = fits l s
mem_fits _ s = true

-- so many shapes, all of them one shape
abbrev pub are_all : ℕ → Shape → List Shape → Truth
are_all n s shapes = (length shapes == n) && list_all (same_shape s) shapes

-- the operands and the result have the shapes that an operator takes and gives
abbrev pub operands_fit : OpSign → Shape → List Shape → Truth
operands_fit (Ints n) result args = same_shape result shape.Int && are_all n shape.Int args
operands_fit (IntPred n) result args = same_shape result shape.Bool && are_all n shape.Int args
operands_fit (Bools n) result args = same_shape result shape.Bool && are_all n shape.Bool args
operands_fit CharPred result args = same_shape result shape.Bool && are_all 1 shape.Char args
operands_fit CharInt result args = same_shape result shape.Int && are_all 1 shape.Char args
operands_fit Same result (a ∷ b ∷ []) = same_shape result shape.Bool && same_shape a b
operands_fit Choice result (c ∷ a ∷ b ∷ []) = same_shape c shape.Bool && same_shape a result && same_shape b result
operands_fit _ result args = false
