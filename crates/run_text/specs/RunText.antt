-- The text of a run: the rows of the lines that are answered, one after the other, and a closing line.
use Rattle.std.specs.Prelude.{◌≡◌, ℕ, ◌+◌, ◌<◌, ◌≤◌, List, [], ◌∷◌, ◌++◌, Option, Some, None, codes, decimal, length}
use Rattle.line_io.specs.declared.form.InputForm.{InputForm}
use Rattle.line_io.specs.declared.form.Cell.{Cell}
use Rattle.line_io.specs.Cells.{IsLine}
use Rattle.run_text.specs.declared.machine.AlarmKind.{AlarmKind}
use Rattle.run_text.specs.declared.machine.AlarmKind.TheVariants.{Division}

-- What a run asks of a node, or of the code of one: the form of its lines, and at an instant with some
-- cells, after instants with earlier ones, the text of the row and the alarm. So each row is told by the
-- lines up to its own.
pub record Node : Type 0 where
  pub form : InputForm
  pub row_at : List (List Cell) → List Cell → List ℕ
  pub alarm_at : List (List Cell) → List Cell → Option AlarmKind

-- the greatest number of bytes of a line without its newline
abbrev pub line_limit : ℕ
line_limit = 65536

-- A line is answered after earlier ones of these cells: it is not too long, it spells cells, and its
-- instant has no alarm.
pub record IsAnswered (node : Node) (before : List (List Cell)) (line : List ℕ) (cells : List Cell) : Type 0 where
  pub short : length line ≤ line_limit
  pub spelled : IsLine node.form line cells
  pub quiet : node.alarm_at before cells ≡ None

-- lines are answered, one after the other, and these are their cells
abbrev pub AreAnswered : Node → List (List Cell) → List (List ℕ) → List (List Cell) → Type 0
AreAnswered node before [] [] = Unit {0}
AreAnswered node before [] (cells ∷ inputs) = ⊥
AreAnswered node before (line ∷ lines) [] = ⊥
AreAnswered node before (line ∷ lines) (cells ∷ inputs) =
    IsAnswered node before line cells × AreAnswered node (before ++ cells ∷ []) lines inputs

-- the texts of their rows
abbrev pub rows_text : Node → List (List Cell) → List (List Cell) → List ℕ
rows_text node before [] = []
rows_text node before (cells ∷ inputs) = node.row_at before cells ++ rows_text node (before ++ cells ∷ []) inputs

-- The first lines are answered, at most so many of them; the rest follows them.
pub record IsAnsweredUpTo (node : Node) (most : ℕ) (lines : List (List ℕ)) (inputs : List (List Cell)) (rest : List (List ℕ)) : Type 0 where
  pub first : List (List ℕ)
  pub all : lines ≡ first ++ rest
  pub few : length inputs ≤ most
  pub answered : AreAnswered node [] first inputs

-- what stops a run: the end of the input, the greatest number of lines, a line that is too long, a line
-- that does not spell the node's inputs, an alarm; lines and instants are counted from 1
pub data Stop : Type 0 where
  AtEnd : Stop
  AtMost : Stop
  AtLongLine : Stop
  AtBadLine : ℕ → Stop
  AtAlarm : AlarmKind → ℕ → Stop

-- no cells are those of the line
abbrev pub IsBad : InputForm → List ℕ → Type 0
IsBad form line = (cells : List Cell) → ¬ IsLine form line cells

-- the line spells cells, and its instant is alarmed
abbrev pub IsAlarmed : Node → List (List Cell) → AlarmKind → List ℕ → Type 0
IsAlarmed node before kind line = (cells : List Cell) × IsLine node.form line cells × (node.alarm_at before cells ≡ Some kind)

-- this holds of the first of some lines
abbrev pub OfFirst : List (List ℕ) → (List ℕ → Type 0) → Type 0
OfFirst [] holds = ⊥
OfFirst (line ∷ lines) holds = holds line

-- What stops a run where lines of these inputs are answered, at most so many, and these lines follow. A
-- line is judged too long before it is judged bad.
abbrev pub Stops : Node → ℕ → List (List Cell) → List (List ℕ) → Stop → Type 0
Stops node most inputs rest AtEnd = (length inputs < most) × (rest ≡ [])
Stops node most inputs rest AtMost = length inputs ≡ most
Stops node most inputs rest AtLongLine = (length inputs < most) × OfFirst rest (λ line. line_limit < length line)
Stops node most inputs rest (AtBadLine k) =
    (length inputs < most) × (k ≡ length inputs + 1) × OfFirst rest (λ line. (length line ≤ line_limit) × IsBad node.form line)
Stops node most inputs rest (AtAlarm kind k) =
    (length inputs < most) × (k ≡ length inputs + 1) × OfFirst rest (λ line. (length line ≤ line_limit) × IsAlarmed node inputs kind line)

-- what a run writes before its closing line, and what stops it
pub record Run : Type 0 where
  pub text : List ℕ
  pub stop : Stop

-- The run over these lines, of which at most so many are answered.
pub record IsRun (node : Node) (most : ℕ) (lines : List (List ℕ)) (run : Run) : Type 0 where
  pub inputs : List (List Cell)
  pub rest : List (List ℕ)
  pub answered : IsAnsweredUpTo node most lines inputs rest
  pub stops : Stops node most inputs rest run.stop
  pub text : run.text ≡ rows_text node [] inputs

-- what the line of an alarm begins with
abbrev pub alarm_text : AlarmKind → List ℕ
alarm_text Division = codes "division by zero at instant "

-- the line that closes a run
abbrev pub closing_of : Stop → List ℕ
closing_of AtEnd = []
closing_of AtMost = []
closing_of AtLongLine = []
closing_of (AtBadLine k) = codes "bad line " ++ decimal k ++ codes "\n"
closing_of (AtAlarm kind k) = alarm_text kind ++ decimal k ++ codes "\n"

-- the whole text of a run
abbrev pub text_of : Run → List ℕ
text_of run = run.text ++ closing_of run.stop
