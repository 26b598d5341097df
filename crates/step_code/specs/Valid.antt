-- Which step code is valid. Each line is judged beside the lines before it, as they stand in the text, whether or not a step
-- evaluates them; what is judged first is what stands first.
use Rattle.std.specs.Prelude.{ℕ, zero, suc, ◌+◌, ◌==◌, ◌&&◌, ◌||◌, nat_lt, nat_le, not, Bool as Truth, true, false, List, [], ◌∷◌, ◌++◌, Option, None, Some, length, slice_get, is_none, max, if◌then◌else◌}
use Rattle.std.specs.List.{list_any, list_all, position_from}
use Rattle.std.specs.Option.{option_map, option_map_or}
use Rattle.std.specs.Str.{chars}
use Rattle.ls_base.specs.declared.Name.{Name}
use Rattle.ls_value.specs.declared.leaf.Leaf.{Leaf}
use Rattle.ls_value.specs.declared.leaf.Shape.{Shape}
use Rattle.ls_value.specs.declared.leaf.Shape.TheVariants as shape
use Rattle.ls_ops.specs.Signature.{signature_of, arity_of}
use Rattle.ls_lexer.specs.Characters.{is_capital, continues_word}
use Rattle.step_code.specs.declared.draft.Draft.{Draft}
use Rattle.step_code.specs.declared.parts.CodeBody.{CodeBody}
use Rattle.step_code.specs.declared.parts.Slot.{Slot}
use Rattle.step_code.specs.declared.parts.InLine.{InLine}
use Rattle.step_code.specs.declared.parts.OutLine.{OutLine}
use Rattle.step_code.specs.declared.parts.Instr.{Instr}
use Rattle.step_code.specs.declared.parts.Instr.TheVariants.{Const, Copy, Op1, Op2, Op3, Test, When, Call}
use Rattle.step_code.specs.declared.parts.Fault.{Fault}
use Rattle.step_code.specs.declared.parts.Fault.TheVariants as fault
use Rattle.step_code.specs.declared.parts.Place.{Place}
use Rattle.step_code.specs.declared.parts.Place.TheVariants as place
use Rattle.step_code.specs.Leaves.{leaf_eq}
use Rattle.step_code.specs.Shapes.{same_shape, fits, is_known_leaf, is_known_shape, kind_at, shape_at, mem_of, mem_known, mem_fits, is_arg, is_mem, same_mem, operands_fit}

-- ---- faults

-- the fault of a line: the first of a number that names nothing, a wrong order and a wrong shape
abbrev pub fault_of : Truth → Truth → Truth → Option Fault
fault_of named ordered shaped = if named then (if ordered then (if shaped then None else Some fault.Shape) else Some fault.Order) else Some fault.Slot

-- a fault at a place of a list
abbrev pub at_place : ℕ → Option Fault → Option (ℕ × Fault)
at_place k found = option_map (λ f. (k, f)) found

abbrev pub or_else : {X : Type 0} → Option X → Option X → Option X
or_else None more = more
or_else (Some x) more = Some x

-- the first fault of the lines of a list after those before them; a line is judged by those before it, by the number of
-- lines that stand after it, and by itself
abbrev pub fault_after : {X : Type 0} → (List X → ℕ → X → Option Fault) → List X → List X → Option (ℕ × Fault)
fault_after judge earlier [] = None
fault_after judge earlier (x ∷ rest) = or_else (at_place (length earlier) (judge earlier (length rest) x)) (fault_after judge (earlier ++ x ∷ []) rest)

-- ---- slots

abbrev pub slot_fault : List (List Name) → Slot → Option Fault
slot_fault cases s = fault_of (is_known_shape cases s.shape && mem_known cases s.kind) true (mem_fits s.kind s.shape)

-- ---- lines of input and output

abbrev pub is_signal : ℕ → InLine → Truth
is_signal k line = option_map_or (λ p. p == k) line.signal false

-- a step sets the slot from its line
abbrev pub sets : ℕ → InLine → Truth
sets k line = (line.slot == k) || is_signal k line

abbrev pub same_clock : List (ℕ × Leaf) → List (ℕ × Leaf) → Truth
same_clock [] [] = true
same_clock (a ∷ xs) (b ∷ ys) = (a.0 == b.0) && leaf_eq a.1 b.1 && same_clock xs ys
same_clock _ _ = false

abbrev pub is_field : ℕ → InLine → Truth
is_field k line = line.slot == k

-- the place of the first line whose signal the slot tells
abbrev pub first_signal : ℕ → List InLine → Option ℕ
first_signal k earlier = position_from (is_signal k) 0 earlier

-- the line has the clock of the line at a place
abbrev pub has_clock_at : List InLine → InLine → ℕ → Truth
has_clock_at earlier line at = option_map_or (λ (first : InLine). same_clock line.on first.on) (slice_get earlier at) true

-- lines of one signal have one clock
abbrev pub same_signal : List InLine → InLine → ℕ → Truth
same_signal earlier line p = option_map_or (has_clock_at earlier line) (first_signal p earlier) true

-- the slot of a signal is the field of no earlier line
abbrev pub signal_goes : List InLine → InLine → ℕ → Truth
signal_goes earlier line p = not (list_any (is_field p) earlier) && same_signal earlier line p

-- a line of input goes with those before it: its slot is none of theirs
abbrev pub goes_with : List InLine → InLine → Truth
goes_with earlier line =
    not (list_any (is_field line.slot) earlier) && is_none (first_signal line.slot earlier) && option_map_or (signal_goes earlier line) line.signal true

abbrev pub has_slot : List Slot → ℕ → Truth
has_slot slots k = nat_lt k (length slots)

abbrev pub is_bool : List Slot → ℕ → Truth
is_bool slots k = same_shape (shape_at slots k) shape.Bool

-- the clock of a line of input asks a line of input for a leaf that is there
abbrev pub asks_known : List (List Name) → List InLine → ℕ × Leaf → Truth
asks_known cases all asked = nat_lt asked.0 (length all) && is_known_leaf cases asked.1

-- the leaf has the shape of the slot of a line, where that line names a slot
abbrev pub fits_line : List Slot → Leaf → InLine → Truth
fits_line slots l line = option_map_or (λ (s : Slot). fits l s.shape) (slice_get slots line.slot) true

abbrev pub asks_fitting : List Slot → List InLine → ℕ × Leaf → Truth
asks_fitting slots all asked = option_map_or (fits_line slots asked.1) (slice_get all asked.0) true

abbrev pub signal_named : List Slot → InLine → Truth
signal_named slots line = option_map_or (λ p. has_slot slots p && not (p == line.slot)) line.signal true

abbrev pub in_named : List (List Name) → List Slot → List InLine → List InLine → InLine → Truth
in_named cases slots all earlier line =
    has_slot slots line.slot && signal_named slots line && list_all (asks_known cases all) line.on && goes_with earlier line

abbrev pub in_shaped : List Slot → List InLine → InLine → Truth
in_shaped slots all line = option_map_or (is_bool slots) line.signal true && list_all (asks_fitting slots all) line.on

abbrev pub in_fault : List (List Name) → List Slot → List InLine → List InLine → InLine → Option Fault
in_fault cases slots all earlier line = fault_of (in_named cases slots all earlier line) true (in_shaped slots all line)

abbrev pub out_fault : List Slot → OutLine → Option Fault
out_fault slots line = fault_of (has_slot slots line.slot && option_map_or (has_slot slots) line.guard true) true (option_map_or (is_bool slots) line.guard true)

abbrev pub inputs_fault : List (List Name) → List Slot → List InLine → Option (ℕ × Fault)
inputs_fault cases slots inputs = fault_after (λ earlier later line. in_fault cases slots inputs earlier line) [] inputs

abbrev pub outputs_fault : List Slot → List OutLine → Option (ℕ × Fault)
outputs_fault slots outputs = fault_after (λ earlier later line. out_fault slots line) [] outputs

-- ---- lists of instructions

-- what is told about a list of instructions: the enumerations, its slots, the lines of input that set some of them, and the
-- bodies that it may call, each with its call depth
pub record Around : Type 0 where
  pub cases : List (List Name)
  pub slots : List Slot
  pub inputs : List InLine
  pub bodies : List CodeBody
  pub depths : List ℕ
  -- the greatest depth of a body that it may call
  pub most : ℕ

abbrev pub around_of : List (List Name) → List Slot → List InLine → List CodeBody → List ℕ → ℕ → Around
around_of cases slots inputs bodies depths most = record { cases = cases; slots = slots; inputs = inputs; bodies = bodies; depths = depths; most = most }

-- one of so many numbers from one on passes the test
abbrev pub any_from : (ℕ → Truth) → ℕ → ℕ → Truth
any_from test k zero = false
any_from test k (suc n) = test k || any_from test (k + 1) n

-- a region of so many lines after a place ends within the region of another line, where that region holds the place
abbrev pub region_kept : ℕ → ℕ → ℕ → Instr → Truth
region_kept here size at (When g other) = nat_lt (at + other) here || nat_le (here + size) (at + other)
region_kept here size at _ = true

-- it ends within each region that holds the place; the lines of a list stand from a place on
abbrev pub ends_inside : ℕ → ℕ → ℕ → List Instr → Truth
ends_inside here size from [] = true
ends_inside here size from (line ∷ rest) = region_kept here size from line && ends_inside here size (from + 1) rest

abbrev pub depth_in : List ℕ → ℕ → ℕ
depth_in depths body = option_map_or (λ d. d) (slice_get depths body) 0

module _ (around : Around) where
  -- the number of slots of a body
  abbrev pub width : ℕ → ℕ
  width body = option_map_or (λ (b : CodeBody). length b.slots) (slice_get around.bodies body) 0

  -- the slot stands in the window of a call
  abbrev pub covers : ℕ → Instr → Truth
  covers k (Call body window) = any_from (λ j. j == k) window (width body)
  covers k _ = false

  -- after a call every slot of its window counts as written
  abbrev pub writes : ℕ → Instr → Truth
  writes k (Const d l) = d == k
  writes k (Copy d a) = d == k
  writes k (Op1 op d a) = d == k
  writes k (Op2 op d a b) = d == k
  writes k (Op3 op d a b c) = d == k
  writes k (Test d a l) = d == k
  writes k (When g size) = false
  writes k (Call body window) = covers k (Call body window)

  abbrev pub is_written : List Instr → ℕ → Truth
  is_written earlier k = list_any (writes k) earlier

  abbrev pub is_covered : List Instr → ℕ → Truth
  is_covered earlier k = list_any (covers k) earlier

  abbrev pub is_set : ℕ → Truth
  is_set k = list_any (sets k) around.inputs

  -- a call names a body that may be called, and a window within the slots of which no slot stands in an earlier window
  abbrev pub call_named : List Instr → Instr → Truth
  call_named earlier (Call body window) =
      nat_lt body (length around.bodies) && nat_le (window + width body) (length around.slots)
      && not (any_from (is_covered earlier) window (width body))
  call_named earlier _ = true

  abbrev pub is_slot : ℕ → Truth
  is_slot k = has_slot around.slots k

  abbrev pub names_slots : Instr → Truth
  names_slots (Const d l) = is_slot d
  names_slots (Copy d a) = is_slot d && is_slot a
  names_slots (Op1 op d a) = is_slot d && is_slot a
  names_slots (Op2 op d a b) = is_slot d && is_slot a && is_slot b
  names_slots (Op3 op d a b c) = is_slot d && is_slot a && is_slot b && is_slot c
  names_slots (Test d a l) = is_slot d && is_slot a
  names_slots (When g size) = is_slot g
  names_slots (Call body window) = true

  abbrev pub names_leaf : Instr → Truth
  names_leaf (Const d l) = is_known_leaf around.cases l
  names_leaf (Test d a l) = is_known_leaf around.cases l
  names_leaf _ = true

  abbrev pub is_named : List Instr → Instr → Truth
  is_named earlier line = names_slots line && names_leaf line && call_named earlier line

  -- ---- order

  -- a slot may be read that holds a leaf from before, or is set from outside, or is written by a line before
  abbrev pub is_ready : List Instr → ℕ → Truth
  is_ready earlier k = is_set k || is_mem (kind_at around.slots k) || is_arg (kind_at around.slots k) || is_written earlier k

  abbrev pub may_write : ℕ → Truth
  may_write k = not (is_set k) && not (is_arg (kind_at around.slots k))

  abbrev pub slot_ordered : List Instr → ℕ → Slot → Truth
  slot_ordered earlier k s = if is_arg s.kind then is_written earlier k else may_write k

  -- each slot that a line reads is ready
  abbrev pub are_ready : List Instr → Instr → Truth
  are_ready earlier (Const d l) = true
  are_ready earlier (Copy d a) = is_ready earlier a
  are_ready earlier (Op1 op d a) = is_ready earlier a
  are_ready earlier (Op2 op d a b) = is_ready earlier a && is_ready earlier b
  are_ready earlier (Op3 op d a b c) = is_ready earlier a && is_ready earlier b && is_ready earlier c
  are_ready earlier (Test d a l) = is_ready earlier a
  are_ready earlier (When g size) = is_ready earlier g
  are_ready earlier (Call body window) = true

  -- the slot that a line writes may be written
  abbrev pub target_free : Instr → Truth
  target_free (Const d l) = may_write d
  target_free (Copy d a) = may_write d
  target_free (Op1 op d a) = may_write d
  target_free (Op2 op d a b) = may_write d
  target_free (Op3 op d a b c) = may_write d
  target_free (Test d a l) = may_write d
  target_free (When g size) = true
  target_free (Call body window) = true

  -- the operands of a body are written before the call; its other slots are written by the call
  abbrev pub window_ordered : List Instr → ℕ → List Slot → Truth
  window_ordered earlier k [] = true
  window_ordered earlier k (s ∷ rest) = slot_ordered earlier k s && window_ordered earlier (k + 1) rest

  abbrev pub depth_at : ℕ → ℕ
  depth_at body = depth_in around.depths body

  abbrev pub body_slots : ℕ → List Slot
  body_slots body = option_map_or (λ (b : CodeBody). b.slots) (slice_get around.bodies body) []

  abbrev pub is_ordered : List Instr → ℕ → Instr → Truth
  is_ordered earlier later (When g size) = nat_le size later && ends_inside (length earlier) size 0 earlier
  is_ordered earlier later (Call body window) = window_ordered earlier window (body_slots body) && nat_le (depth_at body) around.most
  is_ordered earlier later _ = true

  abbrev pub is_in_order : List Instr → ℕ → Instr → Truth
  is_in_order earlier later line = are_ready earlier line && target_free line && is_ordered earlier later line

  -- ---- shapes

  abbrev pub shape_of_slot : ℕ → Shape
  shape_of_slot k = shape_at around.slots k

  -- a slot has the shape of a body's, and holds the same before the first step
  abbrev pub slot_fits : ℕ → Slot → Truth
  slot_fits k s = same_shape (shape_of_slot k) s.shape && same_mem (mem_of (kind_at around.slots k)) (mem_of s.kind)

  -- a window's slots are like those of the body
  abbrev pub window_fits : ℕ → List Slot → Truth
  window_fits k [] = true
  window_fits k (s ∷ rest) = slot_fits k s && window_fits (k + 1) rest

  abbrev pub has_shapes : Instr → Truth
  has_shapes (Const d l) = fits l (shape_of_slot d)
  has_shapes (Copy d a) = same_shape (shape_of_slot d) (shape_of_slot a)
  has_shapes (Op1 op d a) = operands_fit (signature_of op) (shape_of_slot d) (shape_of_slot a ∷ [])
  has_shapes (Op2 op d a b) = operands_fit (signature_of op) (shape_of_slot d) (shape_of_slot a ∷ shape_of_slot b ∷ [])
  has_shapes (Op3 op d a b c) = operands_fit (signature_of op) (shape_of_slot d) (shape_of_slot a ∷ shape_of_slot b ∷ shape_of_slot c ∷ [])
  has_shapes (Test d a l) = same_shape (shape_of_slot d) shape.Bool && fits l (shape_of_slot a)
  has_shapes (When g size) = same_shape (shape_of_slot g) shape.Bool
  has_shapes (Call body window) = window_fits window (body_slots body)

  abbrev pub line_fault : List Instr → ℕ → Instr → Option Fault
  line_fault earlier later line = fault_of (is_named earlier line) (is_in_order earlier later line) (has_shapes line)

  -- the first fault of a list that lacks so many of its lines
  abbrev pub list_fault : ℕ → List Instr → Option (ℕ × Fault)
  list_fault lacks list = fault_after (λ earlier later line. line_fault earlier (later + lacks) line) [] list

  abbrev pub deeper : ℕ → Instr → ℕ
  deeper so_far (Call body window) = max (depth_at body) so_far
  deeper so_far line = so_far

  -- the depth of the deepest body that a list calls, if it is more than one so far
  abbrev pub deepest : ℕ → List Instr → ℕ
  deepest so_far [] = so_far
  deepest so_far (line ∷ rest) = deepest (deeper so_far line) rest

-- ---- bodies, each after those of smaller numbers

abbrev pub slots_fault : List (List Name) → List Slot → Option (ℕ × Fault)
slots_fault cases slots = fault_after (λ earlier later s. slot_fault cases s) [] slots

abbrev pub slot_place : Option (ℕ × Fault) → Option (Place × Fault)
slot_place found = option_map (λ (f : ℕ × Fault). (place.Slot f.0, f.1)) found

abbrev pub in_place : Option (ℕ × Fault) → Option (Place × Fault)
in_place found = option_map (λ (f : ℕ × Fault). (place.In f.0, f.1)) found

abbrev pub out_place : Option (ℕ × Fault) → Option (Place × Fault)
out_place found = option_map (λ (f : ℕ × Fault). (place.Out f.0, f.1)) found

abbrev pub line_place : Option (ℕ × Fault) → Option (Place × Fault)
line_place found = option_map (λ (f : ℕ × Fault). (place.Line f.0, f.1)) found

abbrev pub body_slot_place : ℕ → Option (ℕ × Fault) → Option (Place × Fault)
body_slot_place b found = option_map (λ (f : ℕ × Fault). (place.BodySlot b f.0, f.1)) found

abbrev pub body_line_place : ℕ → Option (ℕ × Fault) → Option (Place × Fault)
body_line_place b found = option_map (λ (f : ℕ × Fault). (place.BodyLine b f.0, f.1)) found

-- a body has depth 1, or 1 more than the deepest body that it calls, and at most 200; so it calls bodies of at most 199
abbrev pub body_around : List (List Name) → List CodeBody → List ℕ → CodeBody → Around
body_around cases done depths body = around_of cases body.slots [] done depths 199

abbrev pub body_fault : List (List Name) → List CodeBody → List ℕ → ℕ → CodeBody → Option (Place × Fault)
body_fault cases done depths lacks body =
    or_else (body_slot_place (length done) (slots_fault cases body.slots)) (body_line_place (length done) (list_fault (body_around cases done depths body) lacks body.list))

abbrev pub body_depth : List (List Name) → List CodeBody → List ℕ → CodeBody → ℕ
body_depth cases done depths body = 1 + deepest (body_around cases done depths body) 0 body.list

-- the last body lacks so many of its lines
abbrev pub bodies_fault : List (List Name) → ℕ → List CodeBody → List ℕ → List CodeBody → Option (Place × Fault)
bodies_fault cases lacks done depths [] = None
bodies_fault cases lacks done depths (body ∷ rest) =
    or_else (body_fault cases done depths (if length rest == 0 then lacks else 0) body)
    (bodies_fault cases lacks (done ++ body ∷ []) (depths ++ body_depth cases done depths body ∷ []) rest)

abbrev pub depths_of : List (List Name) → List CodeBody → List ℕ → List CodeBody → List ℕ
depths_of cases done depths [] = depths
depths_of cases done depths (body ∷ rest) = depths_of cases (done ++ body ∷ []) (depths ++ body_depth cases done depths body ∷ []) rest

-- ---- the whole

abbrev pub main_around : Draft → Around
main_around d = around_of d.cases d.slots d.inputs d.bodies (depths_of d.cases [] [] d.bodies) 200

abbrev pub outer_fault : Draft → Option (Place × Fault)
outer_fault d = or_else (slot_place (slots_fault d.cases d.slots)) (or_else (in_place (inputs_fault d.cases d.slots d.inputs)) (out_place (outputs_fault d.slots d.outputs)))

abbrev pub main_fault : Draft → Option (Place × Fault)
main_fault d = line_place (list_fault (main_around d) d.main_lacks d.main)

-- the place and the fault of the first bad line
abbrev pub first_fault : Draft → Option (Place × Fault)
first_fault d = or_else (outer_fault d) (or_else (bodies_fault d.cases d.body_lacks [] [] d.bodies) (main_fault d))

-- ---- what is no fault of a line, but part of the form of step code

-- an operator has as many operands as it takes
abbrev pub has_arity : Instr → Truth
has_arity (Op1 op d a) = arity_of (signature_of op) == 1
has_arity (Op2 op d a b) = arity_of (signature_of op) == 2
has_arity (Op3 op d a b c) = arity_of (signature_of op) == 3
has_arity _ = true

-- a capital letter of ASCII, and then what goes on with a word
abbrev pub is_constructor_text : List ℕ → Truth
is_constructor_text [] = false
is_constructor_text (c ∷ cs) = is_capital c && list_all continues_word cs

abbrev pub is_constructor : List ℕ → Truth
is_constructor bytes = is_constructor_text (chars bytes)

abbrev pub is_case : List (List ℕ) → Name → Truth
is_case names name = option_map_or is_constructor (slice_get names name.0) false

abbrev pub are_different : List Name → Truth
are_different [] = true
are_different (name ∷ rest) = not (list_any (λ (other : Name). other.0 == name.0) rest) && are_different rest

-- an enumeration has one or more constructors, all different
abbrev pub is_enumeration : List (List ℕ) → List Name → Truth
is_enumeration names cases = not (length cases == 0) && list_all (is_case names) cases && are_different cases

abbrev pub is_formed_body : CodeBody → Truth
is_formed_body body = not (length body.slots == 0) && list_all has_arity body.list

-- slots of bodies alone are set by a caller
abbrev pub is_formed : Draft → Truth
is_formed d =
    list_all (is_enumeration d.names) d.cases && list_all (λ (s : Slot). not (is_arg s.kind)) d.slots
    && list_all is_formed_body d.bodies && list_all has_arity d.main
