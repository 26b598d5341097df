-- The lines of step code, each by its words.
use Rattle.std.specs.Prelude.{ℕ, List, [], ◌∷◌, ◌++◌, Option, None, Some, codes, decimal}
use Rattle.std.specs.List.{flat_map}
use Rattle.ls_value.specs.Spelling.{code_of}
use Rattle.ls_value.specs.declared.leaf.Leaf.{Leaf}
use Rattle.ls_value.specs.declared.leaf.Shape.{Shape}
use Rattle.ls_value.specs.declared.leaf.Shape.TheVariants as shape
use Rattle.ls_ops.specs.Signature.{symbol_of}
use Rattle.step_code.specs.declared.parts.SlotKind.{SlotKind}
use Rattle.step_code.specs.declared.parts.SlotKind.TheVariants as kind
use Rattle.step_code.specs.declared.parts.Instr.{Instr}
use Rattle.step_code.specs.declared.parts.Instr.TheVariants as instr
use Rattle.step_text.specs.declared.entry.Keyword.{Keyword}
use Rattle.step_text.specs.declared.entry.Keyword.TheVariants as keyword
use Rattle.step_text.specs.declared.entry.Entry.{Entry}
use Rattle.step_text.specs.declared.entry.Entry.TheVariants as entry
use Rattle.step_text.specs.Words.{joined}

abbrev pub keyword_text : Keyword → List ℕ
keyword_text keyword.Lsc = codes "lsc"
keyword_text keyword.Type = codes "type"
keyword_text keyword.Slots = codes "slots"
keyword_text keyword.Slot = codes "slot"
keyword_text keyword.In = codes "in"
keyword_text keyword.Out = codes "out"
keyword_text keyword.Body = codes "body"
keyword_text keyword.Code = codes "code"
keyword_text keyword.End = codes "end"
keyword_text keyword.Const = codes "const"
keyword_text keyword.Copy = codes "copy"
keyword_text keyword.Op = codes "op"
keyword_text keyword.Test = codes "test"
keyword_text keyword.When = codes "when"
keyword_text keyword.Call = codes "call"

abbrev pub shape_text : Shape → List ℕ
shape_text shape.Int = codes "int"
shape_text shape.Bool = codes "bool"
shape_text shape.Char = codes "char"
shape_text shape.Text = codes "string"
shape_text (shape.Enum t) = codes "enum" ++ decimal t
shape_text shape.Unit = codes "unit"

abbrev pub kind_words : SlotKind → List (List ℕ)
kind_words kind.Plain = []
kind_words (kind.Mem leaf) = codes "mem" ∷ code_of leaf ∷ []
kind_words kind.Arg = codes "arg" ∷ []

abbrev pub signal_words : Option ℕ → List (List ℕ)
signal_words None = []
signal_words (Some p) = codes "sig" ∷ decimal p ∷ []

abbrev pub on_words : List (ℕ × Leaf) → List (List ℕ)
on_words [] = []
on_words (asked ∷ on) = codes "on" ∷ decimal asked.0 ∷ code_of asked.1 ∷ on_words on

abbrev pub guard_words : Option ℕ → List (List ℕ)
guard_words None = []
guard_words (Some g) = codes "if" ∷ decimal g ∷ []

abbrev pub instr_keyword : Instr → Keyword
instr_keyword (instr.Const d leaf) = keyword.Const
instr_keyword (instr.Copy d a) = keyword.Copy
instr_keyword (instr.Op1 op d a) = keyword.Op
instr_keyword (instr.Op2 op d a b) = keyword.Op
instr_keyword (instr.Op3 op d a b c) = keyword.Op
instr_keyword (instr.Test d a leaf) = keyword.Test
instr_keyword (instr.When g lines) = keyword.When
instr_keyword (instr.Call body window) = keyword.Call

-- the words of an instruction behind its keyword
abbrev pub instr_words : Instr → List (List ℕ)
instr_words (instr.Const d leaf) = decimal d ∷ code_of leaf ∷ []
instr_words (instr.Copy d a) = decimal d ∷ decimal a ∷ []
instr_words (instr.Op1 op d a) = decimal d ∷ symbol_of op ∷ decimal a ∷ []
instr_words (instr.Op2 op d a b) = decimal d ∷ symbol_of op ∷ decimal a ∷ decimal b ∷ []
instr_words (instr.Op3 op d a b c) = decimal d ∷ symbol_of op ∷ decimal a ∷ decimal b ∷ decimal c ∷ []
instr_words (instr.Test d a leaf) = decimal d ∷ decimal a ∷ code_of leaf ∷ []
instr_words (instr.When g lines) = decimal g ∷ decimal lines ∷ []
instr_words (instr.Call body window) = decimal body ∷ decimal window ∷ []

abbrev pub keyword_of : Entry → Keyword
keyword_of entry.Header = keyword.Lsc
keyword_of (entry.Cases cases) = keyword.Type
keyword_of (entry.Slots count) = keyword.Slots
keyword_of (entry.Slot at slot) = keyword.Slot
keyword_of (entry.In line) = keyword.In
keyword_of (entry.Out line) = keyword.Out
keyword_of (entry.Body at slots lines) = keyword.Body
keyword_of (entry.Code lines) = keyword.Code
keyword_of (entry.Instr line) = instr_keyword line
keyword_of entry.End = keyword.End

-- the words of a line behind its keyword
abbrev pub tail_words : Entry → List (List ℕ)
tail_words entry.Header = codes "code" ∷ codes "1" ∷ []
tail_words (entry.Cases cases) = cases
tail_words (entry.Slots count) = decimal count ∷ []
tail_words (entry.Slot at slot) = decimal at ∷ shape_text slot.shape ∷ kind_words slot.kind
tail_words (entry.In line) = decimal line.slot ∷ signal_words line.signal ++ on_words line.on
tail_words (entry.Out line) = decimal line.slot ∷ guard_words line.guard
tail_words (entry.Body at slots lines) = decimal at ∷ decimal slots ∷ decimal lines ∷ []
tail_words (entry.Code lines) = decimal lines ∷ []
tail_words (entry.Instr line) = instr_words line
tail_words entry.End = []

abbrev pub entry_words : Entry → List (List ℕ)
entry_words e = keyword_text (keyword_of e) ∷ tail_words e

-- a line, ended by its newline
abbrev pub entry_text : Entry → List ℕ
entry_text e = joined (entry_words e) ++ 10 ∷ []

-- lines, one after the other
abbrev pub text_of : List Entry → List ℕ
text_of entries = flat_map entry_text entries

-- a line of input of a field and its signal, with this clock
abbrev pub in_line : ℕ × Option ℕ → List (ℕ × Leaf) → Entry
in_line field on = entry.In (record { slot = field.0; signal = field.1; on = on })
