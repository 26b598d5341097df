-- The laws of the scheme.
use Rattle.std.specs.Prelude.{◌≡◌, ℕ, suc, ◌||◌, true, List, Some, length, slice_index_or}
use Rattle.ls_value.specs.declared.leaf.Leaf.{Leaf}
use Rattle.ls_value.specs.declared.leaf.Leaf.TheVariants.{Nil, Bool}
use Rattle.line_io.specs.declared.form.Cell.{Cell}
use Rattle.line_io.specs.declared.form.InputForm.{InputForm}
use Rattle.core_lang.specs.declared.equations.CoreEq.{CoreEq}
use Rattle.core_lang.specs.Leaves.{is_held}
use Rattle.core_lang.specs.declared.cores.Core.{Core}
use Rattle.core_lang.specs.Cores.{IsCore, RanksRise}
use Rattle.core_lang.specs.Orders.{Has, IsOf, input_vars}
use Rattle.core_lang.specs.Equations.{Table, is_on, at, cell, given, is_alarmed}
use Rattle.step_code.specs.declared.code.Code.{Code}
use Rattle.step_code.specs.Leaves.{is_true}
use Rattle.step_code.specs.Steps.{Moment, BodyStep, run}
use Rattle.compile_rules.specs.declared.places.Place.{Place}
use Rattle.compile_rules.specs.declared.places.Place.TheVariants.{Value as value, Present as present, Emitted as emitted}
use Rattle.compile_rules.specs.Scheme.{Guarded, Slots, Plan, after_acts, acts_divide, step_acts}
use Rattle.compile_rules.specs.Blocks.{joined, blocks_lines, are_joined}
use Rattle.compile_rules.specs.Plans.{IsOrderedCore, IsPlanOf, grown}
use Rattle.compile_rules.specs.Setting.{Feeds, slots_at}
use Rattle.compile_rules.specs.Numbering.{IsAmong, IsNumbering, AreUsed, Matches}
use Rattle.compile_rules.specs.Coded.{slots_after, moment_at, IsCompiled}

-- ---- a plan for a core

-- a core in order keeps what is to be promised of a plan
abbrev pub CorePlanned : Type 0
CorePlanned = (core : Core) (agrees : IsCore core.eqs core.inputs core.outputs) → RanksRise core.eqs → (plan : Plan) → IsPlanOf core agrees plan
    → IsOrderedCore plan (input_vars core.inputs) core.eqs

-- ---- the meaning of a step

-- The table is a full solution of the equations on the lines, and it is that of the slots: after each step the slot of a variable
-- that is present has its leaf, outputs are shown exactly where they are present, and the step divides by zero exactly where the
-- instant is alarmed.
pub record IsTableOf (plan : Plan) (form : InputForm) (inputs : List ℕ) (eqs : List CoreEq) (line : ℕ → List Cell) (feed : List Cell → Slots → Slots) (slots : ℕ → Slots) (T : Table) : Type 0 where
  pub inputs_given : (v i : ℕ) → Has inputs v → T v i ≡ given form (line i) v
  pub equations_hold : (e : CoreEq) → IsOf eqs e → (i : ℕ) → T e.var i ≡ cell T e i
  pub leaves : (i v : ℕ) (x : Leaf) → Has (grown inputs eqs) v → T v i ≡ Some x → slots (suc i) (value v) ≡ x
  pub shown : (i : ℕ) (e : CoreEq) → IsOf eqs e → plan.shows e.var ≡ true → slots (suc i) (present e.var) ≡ Bool (is_on (at T i) e.clock)
  pub told : (i : ℕ) (e : CoreEq) → IsOf eqs e → plan.tells e.var ≡ true → is_true (slots (suc i) (emitted e.var)) ≡ is_held (T e.var i) (Bool true)
  pub alarms : (i : ℕ) → acts_divide (step_acts plan inputs eqs) (feed (line i) (slots i)) ≡ is_alarmed (at T i) eqs

-- the steps of the scheme give a full solution of the core, on every number of lines
abbrev pub SchemeSolves : Type 0
SchemeSolves = (plan : Plan) (form : InputForm) (inputs : List ℕ) (eqs : List CoreEq) → IsOrderedCore plan inputs eqs
    → (line : ℕ → List Cell) (feed : List Cell → Slots → Slots) (start : Slots) → Feeds plan form inputs eqs line feed start
    → (T : Table) × IsTableOf plan form inputs eqs line feed (slots_at plan form inputs eqs line feed start) T

-- ---- regions and numbers

-- no region is followed at its nesting by one of its guard that it does not write
abbrev pub AreJoined : Type 0
AreJoined = (acts : List Guarded) → are_joined (joined acts) ≡ true

-- under numbers that keep names apart, the instructions of acts in joined regions do what the acts do
abbrev pub InstructionsDo : Type 0
InstructionsDo = (bodies : List BodyStep) (number_of : Place → ℕ) (names : List Place) (size : ℕ) → IsNumbering number_of (IsAmong names) size
    → (acts : List Guarded) → AreUsed number_of (IsAmong names) size acts → (s : Slots) (m : Moment) → Matches number_of (IsAmong names) size s m
    → Matches number_of (IsAmong names) size (after_acts acts s) (run bodies (λ k. k) 0 (blocks_lines number_of (joined acts)) m)
    × ((run bodies (λ k. k) 0 (blocks_lines number_of (joined acts)) m).alarmed ≡ (m.alarmed || acts_divide acts s))

-- ---- the code

-- after step i the slot of a variable that is present at i has its leaf, and the step notes an alarm exactly where the instant
-- is alarmed
pub record IsTableOfCode (inputs : List ℕ) (eqs : List CoreEq) (line : ℕ → List Cell) (number_of : Place → ℕ) (IsUsed : Place → Type 0) (code : Code) (T : Table) : Type 0 where
  pub leaves : (i v : ℕ) (x : Leaf) → Has (grown inputs eqs) v → IsUsed (value v) → T v i ≡ Some x → slice_index_or (slots_after code line (suc i)) (number_of (value v)) Nil ≡ x
  pub alarms : (i : ℕ) → (moment_at code line i).alarmed ≡ is_alarmed (at T i) eqs

-- the steps of the code give the same full solution as those of the scheme
abbrev pub CodeSolves : Type 0
CodeSolves = (plan : Plan) (form : InputForm) (inputs : List ℕ) (eqs : List CoreEq) → IsOrderedCore plan inputs eqs
    → (line : ℕ → List Cell) (feed : List Cell → Slots → Slots) (start : Slots) → Feeds plan form inputs eqs line feed start
    → (number_of : Place → ℕ) (names : List Place) (code : Code) → IsCompiled plan inputs eqs line feed start number_of (IsAmong names) code
    → (T : Table) × IsTableOf plan form inputs eqs line feed (slots_at plan form inputs eqs line feed start) T
    × IsTableOfCode inputs eqs line number_of (IsAmong names) code T
