-- What a run comes to.
use Rattle.std.specs.Prelude.{◌≡◌, ℕ, ◌⊎◌, false, List, Option, IfSome}
use Rattle.ls_base.specs.Outside.{WritesFront}
use Rattle.line_io.specs.Line.{lines_of}
use Rattle.run_text.specs.RunText.{Node, Run, Stop, AtEnd, AtMost, AtLongLine, AtBadLine, AtAlarm, IsRun, closing_of, text_of}
use Rattle.run_text.specs.Progress.{Adds, IsBegun, IsRead}
use Rattle.run_text.specs.declared.lines.DriveEnd.{DriveEnd}
use Rattle.run_text.specs.declared.lines.DriveEnd.TheVariants as ends
use Rattle.lsc_cli.specs.declared.status.Status.{Status}
use Rattle.lsc_cli.specs.declared.status.Status.TheVariants.{Done, BadLine, Alarm, ReadFault, WriteFault, TooLarge}
use Rattle.lsc_cli.specs.Status.{is_fault}

abbrev pub status_of : Stop → Status
status_of AtEnd = Done
status_of AtMost = Done
status_of AtLongLine = TooLarge
status_of (AtBadLine k) = BadLine
status_of (AtAlarm kind k) = Alarm

-- the status of a run that ended so, where its closing line is written
abbrev pub status_at : DriveEnd → Status
status_at ends.End = Done
status_at ends.Max = Done
status_at ends.LongLine = TooLarge
status_at (ends.BadLine line) = BadLine
status_at (ends.Alarm kind instant) = Alarm
status_at ends.ReadFault = ReadFault
status_at ends.WriteFault = WriteFault

-- the run over these bytes is over: its text was written, and the status is that of what stopped it
abbrev pub IsFinished : Node → ℕ → Option (List ℕ) → Status → Option (List ℕ) → Option (List ℕ) → Type 0
IsFinished node most input answer old new =
    IfSome input (λ bytes. (run : Run) × IsRun node most (lines_of bytes) run × (answer ≡ status_of run.stop) × Adds old (text_of run) new)

-- a front of its text was written: of the rows of the first lines, or of the whole with its closing line
abbrev pub IsCut : Node → ℕ → Option (List ℕ) → Option (List ℕ) → Option (List ℕ) → Type 0
IsCut node most input old new =
    IsBegun node most input old new ⊎ IfSome input (λ bytes. (run : Run) × IsRun node most (lines_of bytes) run × WritesFront old (text_of run) new)

-- the line that closes a run was written, and the status is that of what stopped it; or a front of it was
abbrev pub Closes : Stop → Status → Option (List ℕ) → Option (List ℕ) → Type 0
Closes stop answer old new =
    ((answer ≡ status_of stop) × Adds old (closing_of stop) new) ⊎ ((answer ≡ WriteFault) × WritesFront old (closing_of stop) new)

-- The run of a node over the input, of which at most so many lines are answered, came to this answer.
pub record Runs (node : Node) (most : ℕ) (input left : Option (List ℕ)) (answer : Status) (old new : Option (List ℕ)) : Type 0 where
  pub finished : is_fault answer ≡ false → IsFinished node most input answer old new
  pub read : answer ≡ ReadFault → IsRead node most input left old new
  pub cut : answer ≡ WriteFault → IsCut node most input old new
