-- What the lines of step code need of the slots and bodies that they are evaluated with.
use Rattle.std.specs.Prelude.{ℕ, ◌+◌, ◌<◌, ◌≤◌, IsTrue, List, [], ◌∷◌, ◌++◌, length, slice_get, MatchOption, All}
use Rattle.ls_base.specs.declared.Name.{Name}
use Rattle.ls_value.specs.declared.leaf.Leaf.{Leaf}
use Rattle.step_code.specs.declared.parts.CodeBody.{CodeBody}
use Rattle.step_code.specs.declared.parts.InLine.{InLine}
use Rattle.step_code.specs.declared.parts.OutLine.{OutLine}
use Rattle.step_code.specs.declared.parts.Instr.{Instr}
use Rattle.step_code.specs.declared.parts.Instr.TheVariants.{Const, Copy, Op1, Op2, Op3, Test, When, Call}
use Rattle.step_code.specs.Shapes.{is_known_leaf}

-- where the slots of a list stand that begin at a place
abbrev pub window_at : ℕ → ℕ → ℕ
window_at base k = base + k

-- each number is that of one of so many slots, and a call names a body whose window is within them
abbrev pub IsWithin : List CodeBody → ℕ → Instr → Type 0
IsWithin bodies size (Const d leaf) = d < size
IsWithin bodies size (Copy d a) = (d < size) × (a < size)
IsWithin bodies size (Op1 op d a) = (d < size) × (a < size)
IsWithin bodies size (Op2 op d a b) = (d < size) × (a < size) × (b < size)
IsWithin bodies size (Op3 op d a b c) = (d < size) × (a < size) × (b < size) × (c < size)
IsWithin bodies size (Test d a leaf) = (d < size) × (a < size)
IsWithin bodies size (When g lines) = g < size
IsWithin bodies size (Call body window) = MatchOption (slice_get bodies body) ⊥ (λ (own : CodeBody). window + length own.slots ≤ size)

-- each body, after those that are done, is within its own slots and calls those before it
abbrev pub AreWithin : List CodeBody → List CodeBody → Type 0
AreWithin done [] = Unit {0}
AreWithin done (body ∷ rest) = All (IsWithin done (length body.slots)) body.list × AreWithin (done ++ body ∷ []) rest

-- the slot and the signal of a line of input are of so many slots
abbrev pub InWithin : ℕ → InLine → Type 0
InWithin size line = (line.slot < size) × MatchOption line.signal (Unit {0}) (λ p. p < size)

abbrev pub OutWithin : ℕ → OutLine → Type 0
OutWithin size line = (line.slot < size) × MatchOption line.guard (Unit {0}) (λ g. g < size)

-- a leaf's constructor, if it is one, is there
abbrev pub IsKnown : List (List Name) → Leaf → Type 0
IsKnown cases leaf = IsTrue (is_known_leaf cases leaf)

-- each number of a line that calls no body is that of one of so many slots
abbrev pub IsSimple : ℕ → Instr → Type 0
IsSimple size (Const d leaf) = d < size
IsSimple size (Copy d a) = (d < size) × (a < size)
IsSimple size (Op1 op d a) = (d < size) × (a < size)
IsSimple size (Op2 op d a b) = (d < size) × (a < size) × (b < size)
IsSimple size (Op3 op d a b c) = (d < size) × (a < size) × (b < size) × (c < size)
IsSimple size (Test d a leaf) = (d < size) × (a < size)
IsSimple size (When g lines) = g < size
IsSimple size (Call body window) = Unit {0}

-- the guard of a region is one of so many slots
abbrev pub MayGuard : ℕ → Instr → Type 0
MayGuard size (When g lines) = g < size
MayGuard size _ = Unit {0}
