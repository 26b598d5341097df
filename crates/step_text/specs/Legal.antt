-- Which lines a text can hold: numbers of 32 bits, leaves, operators with as many operands as they take, and constructors.
use Rattle.std.specs.Prelude.{◌≡◌, ℕ, ◌<◌, ◌^◌, List, Option, MatchOption, All, IsTrue}
use Rattle.std.specs.Str.{IsUtf8}
use Rattle.ls_value.specs.Spelling.{IsLeaf}
use Rattle.ls_value.specs.declared.leaf.Leaf.{Leaf}
use Rattle.ls_value.specs.declared.leaf.Shape.{Shape}
use Rattle.ls_value.specs.declared.leaf.Shape.TheVariants as shape
use Rattle.step_code.specs.Valid.{has_arity, is_constructor}
use Rattle.step_code.specs.declared.parts.SlotKind.{SlotKind}
use Rattle.step_code.specs.declared.parts.SlotKind.TheVariants as kind
use Rattle.step_code.specs.declared.parts.Instr.{Instr}
use Rattle.step_code.specs.declared.parts.Instr.TheVariants as instr
use Rattle.step_text.specs.declared.entry.Keyword.{Keyword}
use Rattle.step_text.specs.declared.entry.Entry.{Entry}
use Rattle.step_text.specs.declared.entry.Entry.TheVariants as entry
use Rattle.step_text.specs.Entries.{keyword_of, tail_words, instr_keyword, instr_words}

abbrev pub IsNumber : ℕ → Type 0
IsNumber n = n < 2 ^ 32

abbrev pub IsShape : Shape → Type 0
IsShape (shape.Enum t) = IsNumber t
IsShape _ = Unit {0}

abbrev pub IsKind : SlotKind → Type 0
IsKind (kind.Mem leaf) = IsLeaf leaf
IsKind _ = Unit {0}

-- a slot that may be left out
abbrev pub IsOptional : Option ℕ → Type 0
IsOptional number = MatchOption number (Unit {0}) IsNumber

abbrev pub IsAsked : ℕ × Leaf → Type 0
IsAsked asked = IsNumber asked.0 × IsLeaf asked.1

abbrev pub IsInstr : Instr → Type 0
IsInstr (instr.Const d leaf) = IsNumber d × IsLeaf leaf
IsInstr (instr.Copy d a) = IsNumber d × IsNumber a
IsInstr (instr.Op1 op d a) = IsNumber d × IsNumber a × IsTrue (has_arity (instr.Op1 op d a))
IsInstr (instr.Op2 op d a b) = IsNumber d × IsNumber a × IsNumber b × IsTrue (has_arity (instr.Op2 op d a b))
IsInstr (instr.Op3 op d a b c) = IsNumber d × IsNumber a × IsNumber b × IsNumber c × IsTrue (has_arity (instr.Op3 op d a b c))
IsInstr (instr.Test d a leaf) = IsNumber d × IsNumber a × IsLeaf leaf
IsInstr (instr.When g lines) = IsNumber g × IsNumber lines
IsInstr (instr.Call body window) = IsNumber body × IsNumber window

-- the word is a constructor's name
abbrev pub IsConstructor : List ℕ → Type 0
IsConstructor word = IsUtf8 word × IsTrue (is_constructor word)

abbrev pub IsEntry : Entry → Type 0
IsEntry entry.Header = Unit {0}
IsEntry (entry.Cases cases) = All IsConstructor cases
IsEntry (entry.Slots count) = IsNumber count
IsEntry (entry.Slot at slot) = IsNumber at × IsShape slot.shape × IsKind slot.kind
IsEntry (entry.In line) = IsNumber line.slot × IsOptional line.signal × All IsAsked line.on
IsEntry (entry.Out line) = IsNumber line.slot × IsOptional line.guard
IsEntry (entry.Body at slots lines) = IsNumber at × IsNumber slots × IsNumber lines
IsEntry (entry.Code lines) = IsNumber lines
IsEntry (entry.Instr line) = IsInstr line
IsEntry entry.End = Unit {0}

-- the words behind a keyword are those of this line
abbrev pub IsTail : Keyword → List (List ℕ) → Entry → Type 0
IsTail keyword words e = (keyword_of e ≡ keyword) × (words ≡ tail_words e) × IsEntry e

-- the words behind a keyword are those of this instruction
abbrev pub IsInstrTail : Keyword → List (List ℕ) → Instr → Type 0
IsInstrTail keyword words line = (instr_keyword line ≡ keyword) × (words ≡ instr_words line) × IsInstr line
