-- What the lines of a list so far did to its slots, and which regions are open.
use Rattle.std.specs.Prelude.{◌≡◌, ℕ, ◌+◌, ◌<◌, ◌≤◌, ◌↔◌, ◌⊎◌, ◌||◌, ◌==◌, Bool as Truth, false, None, Some, MatchOption, if◌then◌else◌, IsTrue, List, length, slice_index_or, slice_index}
use Rattle.std.specs.List.{list_any}
use Rattle.step_code.specs.declared.surroundings.Surroundings.{Surroundings}
use Rattle.step_code.specs.declared.marks.Mark.{Mark}
use Rattle.step_code.specs.declared.inputs.Use.{Use}
use Rattle.step_code.specs.declared.parts.Instr.{Instr}
use Rattle.step_code.specs.declared.parts.Instr.TheVariants.{Const, Copy, Op1, Op2, Op3, Test, When, Call}
use Rattle.step_code.specs.declared.parts.InLine.{InLine}
use Rattle.step_code.specs.Valid.{Around, around_of, is_set, writes, covers, width, ends_inside, is_field, first_signal, any_from, or_else, depth_in}

abbrev pub around : Surroundings → Around
around s = around_of s.cases.now s.slots.now s.inputs.now s.bodies.now s.depths.now s.most

-- the mark of a slot after some lines
abbrev pub mark_of : Around → List Instr → ℕ → Mark
mark_of told earlier k = record { is_set = is_set told k; written = list_any (writes told k) earlier; covered = list_any (covers told k) earlier }

-- a mark for each slot
pub record AreMarks (told : Around) (earlier : List Instr) (marks : List Mark) : Type 0 where
  pub all : length marks ≡ length told.slots
  pub each : (k : ℕ) (d : Mark) → k < length marks → slice_index_or marks k d ≡ mark_of told earlier k

-- the regions that hold the place after some lines end at these places, the innermost last
pub record AreRegions (earlier : List Instr) (ends : List ℕ) : Type 0 where
  pub inside : (here size : ℕ) → length earlier ≤ here
      → IsTrue (ends_inside here size 0 earlier) ↔ ((i : ℕ) → i < length ends → (slice_index ends i < here) ⊎ (here + size ≤ slice_index ends i))
  pub nested : (i j : ℕ) → i ≤ j → j < length ends → slice_index ends j ≤ slice_index ends i

-- each region ends at the place or after it
abbrev pub AllReach : ℕ → List ℕ → Type 0
AllReach here ends = (i : ℕ) → i < length ends → here ≤ slice_index ends i

-- what the lines of input so far did to each slot
abbrev pub use_of : List InLine → ℕ → Use
use_of earlier k = record { field = list_any (is_field k) earlier; signal = first_signal k earlier }

abbrev pub AreUses : List InLine → ℕ → List Use → Type 0
AreUses earlier size uses = (length uses ≡ size) × ((k : ℕ) (d : Use) → k < length uses → slice_index_or uses k d ≡ use_of earlier k)

-- ---- how marks change, slot by slot

abbrev pub no_mark : Mark
no_mark = record { is_set = false; written = false; covered = false }

abbrev pub set_if : Mark → Truth → Mark
set_if m more = record { is_set = m.is_set || more; written = m.written; covered = m.covered }

abbrev pub called_if : Mark → Truth → Truth → Mark
called_if m written covered = record { is_set = m.is_set; written = m.written || written; covered = m.covered || covered }

-- the slot is one of so many from one on
abbrev pub is_among : ℕ → ℕ → ℕ → Truth
is_among window size k = any_from (λ j. j == k) window size

-- the mark of each slot is changed so
abbrev pub ChangesEach : (Mark → ℕ → Mark) → List Mark → List Mark → Type 0
ChangesEach change old new = (length new ≡ length old) × ((k : ℕ) (d : Mark) → k < length old → slice_index_or new k d ≡ change (slice_index_or old k d) k)

-- what a line writes stands within so many slots
abbrev pub IsWithin : Around → ℕ → Instr → Type 0
IsWithin told size (Const d l) = d < size
IsWithin told size (Copy d a) = d < size
IsWithin told size (Op1 op d a) = d < size
IsWithin told size (Op2 op d a b) = d < size
IsWithin told size (Op3 op d a b c) = d < size
IsWithin told size (Test d a l) = d < size
IsWithin told size (When g lines) = Unit {0}
IsWithin told size (Call body window) = window + width told body ≤ size

-- the region of a line ends within the regions around it
abbrev pub EndsInside : List Instr → Instr → Type 0
EndsInside earlier (When g size) = IsTrue (ends_inside (length earlier) size 0 earlier)
EndsInside earlier _ = Unit {0}

-- ---- how the uses of slots by lines of input change

abbrev pub no_use : Use
no_use = record { field = false; signal = None }

abbrev pub field_if : Use → Truth → Use
field_if u more = record { field = u.field || more; signal = u.signal }

abbrev pub signal_if : Use → Truth → ℕ → Use
signal_if u more number = record { field = u.field; signal = or_else u.signal (if more then Some number else None) }

abbrev pub ChangesUses : (Use → ℕ → Use) → List Use → List Use → Type 0
ChangesUses change old new = (length new ≡ length old) × ((k : ℕ) (d : Use) → k < length old → slice_index_or new k d ≡ change (slice_index_or old k d) k)

-- the slot of the line's signal is one of so many
abbrev pub SignalWithin : ℕ → InLine → Type 0
SignalWithin size line = MatchOption line.signal (Unit {0}) (λ p. p < size)

-- no depth is more than so many
abbrev pub AreShallow : ℕ → List ℕ → Type 0
AreShallow most depths = (k : ℕ) → depth_in depths k ≤ most
