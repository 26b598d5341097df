-- What has been answered after some lines of a run, and how one more line adds to it.
use Rattle.std.proofs.Common.{◌≡◌, ℕ, ◌+◌, ◌<◌, ◌≤◌, List, [], ◌∷◌, ◌++◌, Option, Some, None, length, refl, sym, ◌∙◌, ap, subst, arith, append_assoc, length-append, ◌⊎◌, inl, inr}
use Rattle.std.specs.Prelude.{⊤}
use Rattle.std.specs.Option.{option_map, IfSome}
use Rattle.std.proofs.lemmas.List.{append-nil}
use Rattle.ls_base.specs.Outside.{WritesFront}
use Rattle.line_io.specs.declared.form.Cell.{Cell}
use Rattle.line_io.specs.Cells.{IsLine}
use Rattle.line_io.specs.Line.{NoNewline, lines_of, line_of, rest_of, ahead}
use Rattle.line_io.specs.Rows.{Begins, row_text}
use Rattle.run_text.specs.declared.lines.DriveEnd.{DriveEnd}
use Rattle.run_text.specs.declared.lines.DriveEnd.TheVariants.{WriteFault}
use Rattle.run_text.specs.declared.machine.AlarmKind.{AlarmKind}
use Rattle.run_text.specs.RunText.{Node, Stop, AtEnd, AtMost, AtLongLine, AtBadLine, AtAlarm, IsAnswered, IsAnsweredUpTo, AreAnswered, IsBad, IsAlarmed, OfFirst, Stops, rows_text}
use Rattle.run_text.specs.Machine.{after}
use Rattle.run_text.specs.OneLine.{HasRow}
use Rattle.run_text.specs.Progress.{Adds, AreWhole, IsOver, IsBegun, IsRead, stop_of}
use Rattle.run_text.proofs.Bytes.{parts, split_lines, OneMore, one_more, rest_not_empty, joined, long_some}
use Rattle.run_text.proofs.Texts.{nothing_begun, begins_more, begins_on, begins_all, front_held, front_row}

-- a node that has been moved on by lines of these inputs
abbrev pub moved : Node → List (List Cell) → Node
moved node inputs = record {
  form = node.form;
  row_at = λ before. node.row_at (inputs ++ before);
  alarm_at = λ before. node.alarm_at (inputs ++ before);
}

row_here : (node : Node) (inputs : List (List Cell)) (cells : List Cell) → (moved node inputs).row_at [] cells ≡ node.row_at inputs cells
row_here node inputs cells = λ i. node.row_at (append-nil inputs i) cells

alarm_here : (node : Node) (inputs : List (List Cell)) (cells : List Cell) → (moved node inputs).alarm_at [] cells ≡ node.alarm_at inputs cells
alarm_here node inputs cells = λ i. node.alarm_at (append-nil inputs i) cells

moved_more : (node : Node) (inputs : List (List Cell)) (cells : List Cell) → after (moved node inputs) cells ≡ moved node (inputs ++ cells ∷ [])
moved_more node inputs cells = λ i. record {
  form = node.form;
  row_at = λ before. node.row_at (sym (append_assoc inputs (cells ∷ []) before) i);
  alarm_at = λ before. node.alarm_at (sym (append_assoc inputs (cells ∷ []) before) i);
}

-- one more line is answered
answered_more : (node : Node) (before : List (List Cell)) (lines : List (List ℕ)) (inputs : List (List Cell)) (line : List ℕ) (cells : List Cell)
    → AreAnswered node before lines inputs → IsAnswered node (before ++ inputs) line cells → AreAnswered node before (lines ++ line ∷ []) (inputs ++ cells ∷ [])
answered_more node before [] [] line cells are is = (subst (λ b. IsAnswered node b line cells) (append-nil before) is, tt)
answered_more node before [] (d ∷ inputs) line cells are is = absurd are
answered_more node before (l ∷ lines) [] line cells are is = absurd are
answered_more node before (l ∷ lines) (d ∷ inputs) line cells are is = (
  are.0,
  answered_more node (before ++ d ∷ []) lines inputs line cells are.1 (subst (λ b. IsAnswered node b line cells) (sym (append_assoc before (d ∷ []) inputs)) is),
)

-- and its row stands behind the others
text_more : (node : Node) (before inputs : List (List Cell)) (cells : List Cell)
    → rows_text node before (inputs ++ cells ∷ []) ≡ rows_text node before inputs ++ node.row_at (before ++ inputs) cells
text_more node before [] cells = append-nil (node.row_at before cells) ∙ (λ i. node.row_at (sym (append-nil before) i) cells)
text_more node before (d ∷ inputs) cells =
    ap (λ zs. node.row_at before d ++ zs) (text_more node (before ++ d ∷ []) inputs cells)
    ∙ (λ i. node.row_at before d ++ (rows_text node (before ++ d ∷ []) inputs ++ node.row_at (append_assoc before (d ∷ []) inputs i) cells))
    ∙ sym (append_assoc (node.row_at before d) (rows_text node (before ++ d ∷ []) inputs) (node.row_at (before ++ d ∷ inputs) cells))

-- Lines of some bytes are answered, and the rest is ahead.
record Done (node : Node) (inputs : List (List Cell)) (bytes rest : List ℕ) : Type 0 where
  lines : List ℕ
  taken : bytes ≡ lines ++ rest
  whole : AreWhole lines ⊎ (rest ≡ [])
  answered : AreAnswered node [] (lines_of lines) inputs

-- the same where the bytes are told
abbrev Follows : Node → List (List Cell) → Option (List ℕ) → Option (List ℕ) → Type 0
Follows node inputs None here = ⊤
Follows node inputs (Some bytes) None = ⊥
Follows node inputs (Some bytes) (Some rest) = Done node inputs bytes rest

-- what has been answered when so many lines have: their rows are written, but for what is held back, and
-- the machine has moved on by these lines
pub record Answered (start now : Node) (count : ℕ) (first here old new : Option (List ℕ)) (pending : List ℕ) : Type 0 where
  inputs : List (List Cell)
  counted : length inputs ≡ count
  node : now ≡ moved start inputs
  begun : Begins old (rows_text start [] inputs) new pending
  follows : Follows start inputs first here

none_follows : (start : Node) (first : Option (List ℕ)) → Follows start [] first first
none_follows start None = tt
none_follows start (Some bytes) = record {
  lines = [];
  taken = refl;
  whole = inl (λ rest. refl);
  answered = tt;
}

-- at the start nothing has
pub answered-none : (start : Node) (first old : Option (List ℕ)) (pending : List ℕ) → pending ≡ [] → Answered start start 0 first first old old pending
answered-none start first old pending none = record {
  inputs = [];
  counted = refl;
  node = refl;
  begun = subst (Begins old [] old) (sym none) (nothing_begun old);
  follows = none_follows start first;
}

-- a line that is answered is done
done_row : (node : Node) (inputs : List (List Cell)) (bytes rest : List ℕ) (cells : List Cell) → (d : Done node inputs bytes rest)
    → IsAnswered node inputs (line_of rest) cells → OneMore d.lines rest → Done node (inputs ++ cells ∷ []) bytes (rest_of rest)
done_row node inputs bytes rest cells d is w = record {
  lines = w.bytes;
  taken = d.taken ∙ w.taken;
  whole = w.whole;
  answered = subst (λ lines. AreAnswered node [] lines (inputs ++ cells ∷ [])) (sym w.lines)
      (answered_more node [] (lines_of d.lines) inputs (line_of rest) cells d.answered is);
}

-- what is ahead begins with this line
abbrev pub Splits : Option (List ℕ) → List ℕ → Type 0
Splits here line = IfSome here (λ bytes. (0 < length bytes) × (line ≡ line_of bytes))

follows_row : (node : Node) (inputs : List (List Cell)) (line : List ℕ) (cells : List Cell) (first here next : Option (List ℕ))
    → Follows node inputs first here → Splits here line → next ≡ option_map rest_of here → IsAnswered node inputs line cells → Follows node (inputs ++ cells ∷ []) first next
follows_row node inputs line cells None here next f split goes_on is = tt
follows_row node inputs line cells (Some bytes) None next f split goes_on is = absurd f
follows_row node inputs line cells (Some bytes) (Some rest) next f split goes_on is =
    subst (Follows node (inputs ++ cells ∷ []) (Some bytes)) (sym goes_on)
    (done_row node inputs bytes rest cells f (subst (λ l. IsAnswered node inputs l cells) split.1 is)
    (one_more f.lines rest (rest_not_empty rest (AreWhole f.lines) split.0 f.whole) split.0 (parts rest)))

up_to : (node : Node) (most : ℕ) (inputs : List (List Cell)) (bytes rest : List ℕ) → Done node inputs bytes rest → length inputs ≤ most
    → IsAnsweredUpTo node most (lines_of bytes) inputs (lines_of rest)
up_to node most inputs bytes rest d few = record {
  first = lines_of d.lines;
  all = joined d.lines bytes rest d.taken d.whole;
  few = few;
  answered = d.answered;
}

some_of : (here : Option (List ℕ)) (P : List ℕ → Type 0) (rest : List ℕ) → IfSome here P → here ≡ Some rest → P rest
some_of None P rest h is = absurd (cc)
some_of (Some bytes) P rest h is = subst P (let e : bytes ≡ rest = cc in e) h

-- a front of the rows of these inputs was written
begun_at : (node : Node) (most : ℕ) (inputs : List (List Cell)) (old new first here : Option (List ℕ)) → Follows node inputs first here → length inputs ≤ most
    → WritesFront old (rows_text node [] inputs) new → IsBegun node most first old new
begun_at node most inputs old new None here f few front = tt
begun_at node most inputs old new (Some bytes) None f few front = absurd f
begun_at node most inputs old new (Some bytes) (Some rest) f few front = (inputs, lines_of rest, up_to node most inputs bytes rest f few, front)

module _ (start now : Node) (count : ℕ) (first here old mid : Option (List ℕ)) (pending : List ℕ) (a : Answered start now count first here old mid pending) where
  over : (most : ℕ) (stop : Stop) (new : Option (List ℕ)) → count ≤ most → (first here : Option (List ℕ)) → Follows start a.inputs first here
      → ((rest : List ℕ) → here ≡ Some rest → Stops start most a.inputs (lines_of rest) stop) → Adds mid pending new → IsOver start most first stop old new
  over most stop new few None here f stops written = tt
  over most stop new few (Some bytes) None f stops written = absurd f
  over most stop new few (Some bytes) (Some rest) f stops written = (
    rows_text start [] a.inputs,
    record {
      inputs = a.inputs;
      rest = lines_of rest;
      answered = up_to start most a.inputs bytes rest f (omega (arith, a.counted));
      stops = stops rest refl;
      text = refl;
    },
    begins_all old mid new (rows_text start [] a.inputs) pending a.begun written,
  )

  pub over-most : (most : ℕ) (new : Option (List ℕ)) → count ≡ most → Adds mid pending new → IsOver start most first AtMost old new
  over-most most new full written = over most AtMost new (omega arith) first here a.follows (λ rest is. a.counted ∙ full) written

  pub over-end : (most : ℕ) (new : Option (List ℕ)) → count < most → IfSome here (λ bytes. bytes ≡ []) → Adds mid pending new → IsOver start most first AtEnd old new
  over-end most new h ended written = over most AtEnd new (omega arith) first here a.follows
      (λ rest is. (omega (arith, a.counted), ap lines_of (some_of here (λ bytes. bytes ≡ []) rest ended is))) written

  -- this holds of the line that comes next
  at_line : (line rest : List ℕ) (P : List ℕ → Type 0) → Splits here line → here ≡ Some rest → P line → OfFirst (lines_of rest) P
  at_line line rest P split is holds =
      let s = some_of here (λ bytes. (0 < length bytes) × (line ≡ line_of bytes)) rest split is in
      subst (λ lines. OfFirst lines P) (sym (split_lines rest s.0)) (subst P s.1 holds)

  pub over-bad : (most : ℕ) (new : Option (List ℕ)) (line : List ℕ) → count < most → Splits here line → length line ≤ 65536 → IsBad now.form line
      → Adds mid pending new → IsOver start most first (AtBadLine (count + 1)) old new
  over-bad most new line h split short bad written = over most (AtBadLine (count + 1)) new (omega arith) first here a.follows
      (λ rest is. (
        omega (arith, a.counted),
        ap (λ n. n + 1) (sym a.counted),
        at_line line rest (λ line. (length line ≤ 65536) × IsBad start.form line) split is (short, subst (λ n. IsBad n.form line) a.node bad),
      )) written

  pub over-alarm : (most : ℕ) (new : Option (List ℕ)) (line : List ℕ) (kind : AlarmKind) → count < most → Splits here line → length line ≤ 65536 → IsAlarmed now [] kind line
      → Adds mid pending new → IsOver start most first (AtAlarm kind (count + 1)) old new
  over-alarm most new line kind h split short alarmed written = over most (AtAlarm kind (count + 1)) new (omega arith) first here a.follows
      (λ rest is. (
        omega (arith, a.counted),
        ap (λ n. n + 1) (sym a.counted),
        at_line line rest (λ line. (length line ≤ 65536) × IsAlarmed start a.inputs kind line) split is (short, here_alarmed),
      )) written
    where
      here_alarmed : IsAlarmed start a.inputs kind line
      here_alarmed =
          let m = subst (λ n. IsAlarmed n [] kind line) a.node alarmed in
          (m.0, m.1, sym (alarm_here start a.inputs m.0) ∙ m.2)

  pub over-long : (most : ℕ) (new : Option (List ℕ)) → count < most → IfSome here (λ bytes. 65536 < length (line_of bytes)) → Adds mid pending new → IsOver start most first AtLongLine old new
  over-long most new h long written = over most AtLongLine new (omega arith) first here a.follows
      (λ rest is.
      let s = some_of here (λ bytes. 65536 < length (line_of bytes)) rest long is in
      (omega (arith, a.counted), subst (λ lines. OfFirst lines (λ line. 65536 < length line)) (sym (split_lines rest (long_some rest s))) s)) written

  -- a front of what was held back is a front of the rows
  pub begun-held : (most : ℕ) (new : Option (List ℕ)) → count ≤ most → WritesFront mid pending new → IsBegun start most first old new
  begun-held most new h front =
      begun_at start most a.inputs old new first here a.follows (omega (arith, a.counted)) (front_held old mid new (rows_text start [] a.inputs) pending a.begun front)

  read_at : (most : ℕ) (new : Option (List ℕ)) (held : List ℕ) → count < most → (first here left : Option (List ℕ)) → Follows start a.inputs first here
      → ahead held left ≡ here → NoNewline held → length held ≤ 65536 → Adds mid pending new → IsRead start most first left old new
  read_at most new held h None here left f same no_line short written = tt
  read_at most new held h (Some bytes) here None f same no_line short written = tt
  read_at most new held h (Some bytes) None (Some left) f same no_line short written = absurd f
  read_at most new held h (Some bytes) (Some rest) (Some left) f same no_line short written =
      let rest_is : rest ≡ held ++ left = cc in
      record {
        lines = f.lines;
        part = held;
        taken = f.taken ∙ ap (λ zs. f.lines ++ zs) rest_is;
        no_line = no_line;
        short = short;
        whole = whole_at f.lines rest (held ++ left) rest_is f.whole;
        inputs = a.inputs;
        answered = f.answered;
        few = omega (arith, a.counted);
        written = begins_all old mid new (rows_text start [] a.inputs) pending a.begun written;
      }
    where
      whole_at : (lines rest other : List ℕ) → rest ≡ other → AreWhole lines ⊎ (rest ≡ []) → AreWhole lines ⊎ (other ≡ [])
      whole_at lines rest other e (inl w) = inl w
      whole_at lines rest other e (inr none) = inr (sym e ∙ none)

  -- the lines that were read are answered
  pub read-so-far : (most : ℕ) (new : Option (List ℕ)) (held : List ℕ) (left : Option (List ℕ)) → count < most
      → ahead held left ≡ here → NoNewline held → length held ≤ 65536 → Adds mid pending new → IsRead start most first left old new
  read-so-far most new held left h same no_line short written = read_at most new held h first here left a.follows same no_line short written

-- what has been answered, where some of what was held back has been written
pub answered-on : (start now : Node) (count : ℕ) (first here old mid found : Option (List ℕ)) (pending kept : List ℕ)
    → Answered start now count first here old mid pending → Begins mid pending found kept → Answered start now count first here old found kept
answered-on start now count first here old mid found pending kept a flushed = record {
  inputs = a.inputs;
  counted = a.counted;
  node = a.node;
  begun = begins_on old mid found (rows_text start [] a.inputs) pending kept a.begun flushed;
  follows = a.follows;
}

-- a line with its row
module _ (start now now' : Node) (count : ℕ) (first here old mid : Option (List ℕ)) (pending line : List ℕ) (shown : List Cell)
    (a : Answered start now count first here old mid pending) (split : Splits here line) (short : length line ≤ 65536) (has : HasRow now now' shown line) where
  is_answered : IsAnswered start a.inputs line has.cells
  is_answered = record {
    short = short;
    spelled = subst (λ n. IsLine n.form line has.cells) a.node has.spelled;
    quiet = sym (ap (λ n. n.alarm_at [] has.cells) a.node ∙ alarm_here start a.inputs has.cells) ∙ has.quiet;
  }

  row_is : row_text now.form shown ≡ start.row_at a.inputs has.cells
  row_is = has.row ∙ ap (λ n. n.row_at [] has.cells) a.node ∙ row_here start a.inputs has.cells

  -- is one more that has been answered
  pub answered-row : (next new : Option (List ℕ)) (held : List ℕ) → next ≡ option_map rest_of here → Begins mid (pending ++ row_text now.form shown) new held
      → Answered start now' (count + 1) first next old new held
  answered-row next new held goes_on added = record {
    inputs = a.inputs ++ has.cells ∷ [];
    counted = omega (arith, length-append a.inputs (has.cells ∷ []), a.counted);
    node = has.next ∙ ap (λ n. after n has.cells) a.node ∙ moved_more start a.inputs has.cells;
    begun = subst (λ zs. Begins old zs new held) (sym (text_more start [] a.inputs has.cells))
        (begins_more old mid new (rows_text start [] a.inputs) (start.row_at a.inputs has.cells) pending held a.begun
        (subst (λ row. Begins mid (pending ++ row) new held) row_is added));
    follows = follows_row start a.inputs line has.cells first here next a.follows split goes_on is_answered;
  }

  -- a front of that row is a front of the rows
  pub begun-row : (most : ℕ) (new : Option (List ℕ)) → count < most → WritesFront mid (pending ++ row_text now.form shown) new → IsBegun start most first old new
  begun-row most new h front =
      begun_at start most (a.inputs ++ has.cells ∷ []) old new first (option_map rest_of here)
      (follows_row start a.inputs line has.cells first here (option_map rest_of here) a.follows split refl is_answered)
      (omega (arith, length-append a.inputs (has.cells ∷ []), a.counted))
      (subst (λ zs. WritesFront old zs new) (sym (text_more start [] a.inputs has.cells))
      (front_row old mid new (rows_text start [] a.inputs) (start.row_at a.inputs has.cells) pending a.begun
      (subst (λ row. WritesFront mid (pending ++ row) new) row_is front)))

-- a run that ends so when what is held back is written
pub over-flushed : (start : Node) (most : ℕ) (first old mid new : Option (List ℕ)) (pending : List ℕ) (end result : DriveEnd)
    → (result ≡ end) ⊎ (result ≡ WriteFault) → (result ≡ end → Adds mid pending new)
    → IfSome (stop_of end) (λ stop. (written : Option (List ℕ)) → Adds mid pending written → IsOver start most first stop old written)
    → IfSome (stop_of result) (λ stop. IsOver start most first stop old new)
over-flushed start most first old mid new pending end result (inl same) written over =
    subst (λ e. IfSome (stop_of e) (λ stop. IsOver start most first stop old new)) (sym same) (at_end (stop_of end) over)
  where
    at_end : (o : Option Stop) → IfSome o (λ stop. (written : Option (List ℕ)) → Adds mid pending written → IsOver start most first stop old written) → IfSome o (λ stop. IsOver start most first stop old new)
    at_end None f = tt
    at_end (Some stop) f = f new (written same)
over-flushed start most first old mid new pending end result (inr fault) written over =
    subst (λ e. IfSome (stop_of e) (λ stop. IsOver start most first stop old new)) (sym fault) tt
