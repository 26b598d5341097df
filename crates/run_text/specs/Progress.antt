-- How far a run has come: what is written when it is over, and when a read or a write fails.
use Rattle.std.specs.Prelude.{◌≡◌, ℕ, ◌<◌, ◌≤◌, ◌⊎◌, List, [], ◌++◌, Option, Some, None, IfSome, length}
use Rattle.std.specs.Option.{option_map}
use Rattle.ls_base.specs.Outside.{WritesFront}
use Rattle.line_io.specs.declared.form.Cell.{Cell}
use Rattle.line_io.specs.Line.{NoNewline, lines_of}
use Rattle.run_text.specs.declared.lines.DriveEnd.{DriveEnd}
use Rattle.run_text.specs.declared.lines.DriveEnd.TheVariants.{End, Max, BadLine, Alarm, LongLine, ReadFault, WriteFault}
use Rattle.run_text.specs.RunText.{Node, Stop, AtEnd, AtMost, AtLongLine, AtBadLine, AtAlarm, IsRun, IsAnsweredUpTo, AreAnswered, rows_text, line_limit}

-- a text was written behind what had been
abbrev pub Adds : Option (List ℕ) → List ℕ → Option (List ℕ) → Type 0
Adds old text new = new ≡ option_map (λ before. before ++ text) old

-- the run over these bytes is over: this stops it, and its rows were written
abbrev pub IsOver : Node → ℕ → Option (List ℕ) → Stop → Option (List ℕ) → Option (List ℕ) → Type 0
IsOver node most input stop old new =
    IfSome input (λ bytes. (text : List ℕ) × IsRun node most (lines_of bytes) (record { text = text; stop = stop }) × Adds old text new)

-- a front of the rows of the first lines was written, and nothing else
abbrev pub IsBegun : Node → ℕ → Option (List ℕ) → Option (List ℕ) → Option (List ℕ) → Type 0
IsBegun node most input old new =
    IfSome input (λ bytes. (inputs : List (List Cell)) × (rest : List (List ℕ)) × IsAnsweredUpTo node most (lines_of bytes) inputs rest × WritesFront old (rows_text node [] inputs) new)

-- each line of the bytes is whole, whatever follows them
abbrev pub AreWhole : List ℕ → Type 0
AreWhole bytes = (rest : List ℕ) → lines_of (bytes ++ rest) ≡ lines_of bytes ++ lines_of rest

-- A read failed: the bytes taken are whole lines and then a part of a line that is not too long yet; or
-- they are all there are, and then the last line may have no newline. All these lines are answered, fewer
-- than may be, and their rows are written.
pub record IsReadUpTo (node : Node) (most : ℕ) (bytes left : List ℕ) (old new : Option (List ℕ)) : Type 0 where
  pub lines : List ℕ
  pub part : List ℕ
  pub taken : bytes ≡ lines ++ (part ++ left)
  pub no_line : NoNewline part
  pub short : length part ≤ line_limit
  pub whole : AreWhole lines ⊎ (part ++ left ≡ [])
  pub inputs : List (List Cell)
  pub answered : AreAnswered node [] (lines_of lines) inputs
  pub few : length inputs < most
  pub written : Adds old (rows_text node [] inputs) new

abbrev pub IsRead : Node → ℕ → Option (List ℕ) → Option (List ℕ) → Option (List ℕ) → Option (List ℕ) → Type 0
IsRead node most input left old new = IfSome input (λ bytes. IfSome left (λ rest. IsReadUpTo node most bytes rest old new))

-- what stopped the run, where it was no fault
abbrev pub stop_of : DriveEnd → Option Stop
stop_of End = Some AtEnd
stop_of Max = Some AtMost
stop_of LongLine = Some AtLongLine
stop_of (BadLine line) = Some (AtBadLine line)
stop_of (Alarm kind instant) = Some (AtAlarm kind instant)
stop_of ReadFault = None
stop_of WriteFault = None
