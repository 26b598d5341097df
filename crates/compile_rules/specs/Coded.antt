-- The code of a core under a plan, and its steps on lines.
use Rattle.std.specs.Prelude.{◌≡◌, ℕ, zero, suc, false, List, [], length}
use Rattle.ls_value.specs.declared.leaf.Leaf.{Leaf}
use Rattle.line_io.specs.declared.form.Cell.{Cell}
use Rattle.core_lang.specs.declared.equations.CoreEq.{CoreEq}
use Rattle.step_code.specs.declared.code.Code.{Code}
use Rattle.step_code.specs.Steps.{Moment, moment, step, first_slots, with_inputs}
use Rattle.compile_rules.specs.declared.places.Place.{Place}
use Rattle.compile_rules.specs.Scheme.{Slots, Plan, step_acts}
use Rattle.compile_rules.specs.Blocks.{joined, blocks_lines}
use Rattle.compile_rules.specs.Numbering.{IsNumbering, AreUsed, Matches}

-- a list of slots as a moment
abbrev pub still : List Leaf → Moment
still slots = moment slots false 0

-- the slots after so many steps
abbrev pub slots_after : Code → (ℕ → List Cell) → ℕ → List Leaf
slots_after code line zero = first_slots code
slots_after code line (suc i) = (step code (line i) (slots_after code line i)).slots

-- the step of an instant, from 0
abbrev pub moment_at : Code → (ℕ → List Cell) → ℕ → Moment
moment_at code line i = step code (line i) (slots_after code line i)

-- the main list of the code does the acts of a step in joined regions, under numbers that keep the names in use apart; its
-- slots begin as `start`, and its lines of input set them as `feed` does
pub record IsCompiled (plan : Plan) (inputs : List ℕ) (eqs : List CoreEq) (line : ℕ → List Cell) (feed : List Cell → Slots → Slots) (start : Slots) (number_of : Place → ℕ) (IsUsed : Place → Type 0) (code : Code) : Type 0 where
  pub bodies : code.bodies ≡ []
  pub main : code.main ≡ blocks_lines number_of (joined (step_acts plan inputs eqs))
  pub numbering : IsNumbering number_of IsUsed (length code.slots)
  pub used : AreUsed number_of IsUsed (length code.slots) (step_acts plan inputs eqs)
  pub begins : Matches number_of IsUsed (length code.slots) start (still (first_slots code))
  pub sets : (i : ℕ) (s : Slots) (slots : List Leaf) → Matches number_of IsUsed (length code.slots) s (still slots)
      → Matches number_of IsUsed (length code.slots) (feed (line i) s) (still (with_inputs code.inputs (line i) slots))
