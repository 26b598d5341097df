-- A run and its closing line.
use Rattle.std.proofs.Common.{◌≡◌, ℕ, List, [], ◌++◌, Option, Some, None, true, false, refl, sym, ◌∙◌, ap, subst, inl, inr}
use Rattle.std.specs.Prelude.{IsNone}
use Rattle.std.specs.Option.{option_map, IfSome}
use Rattle.std.proofs.lemmas.List.{append-nil}
use Rattle.ls_base.specs.Outside.{WritesFront}
use Rattle.line_io.specs.Line.{ahead}
use Rattle.run_text.specs.RunText.{Node, Stop, AtEnd, AtMost, AtLongLine, AtBadLine, AtAlarm, closing_of}
use Rattle.run_text.specs.Progress.{Adds, IsOver, IsBegun, IsRead, stop_of}
use Rattle.run_text.specs.declared.lines.DriveEnd.{DriveEnd}
use Rattle.run_text.specs.declared.lines.DriveEnd.TheVariants as ends
use Rattle.run_text.proofs.Texts.{two_texts, front_more}
use Rattle.lsc_cli.specs.declared.status.Status.{Status}
use Rattle.lsc_cli.specs.declared.status.Status.TheVariants as statuses
use Rattle.lsc_cli.specs.Run.{Runs, Closes, IsFinished, IsCut, status_of, status_at}
use Rattle.lsc_cli.specs.Status.{is_fault}

-- a front of a closing line, behind a text that was written
front_behind : (text line : List ℕ) (old mid new : Option (List ℕ)) → Adds old text mid → WritesFront mid line new → WritesFront old (text ++ line) new
front_behind text line old mid new is front =
    subst (λ l. WritesFront old (text ++ l) new) (append-nil line) (front_more text line [] old mid new is front)

no_fault : (stop : Stop) → is_fault (status_of stop) ≡ false
no_fault AtEnd = refl
no_fault AtMost = refl
no_fault AtLongLine = refl
no_fault (AtBadLine k) = refl
no_fault (AtAlarm kind k) = refl

module _ (node : Node) (most : ℕ) (stop : Stop) (answer : Status) (old mid new : Option (List ℕ)) where
  finished_at : (input : Option (List ℕ)) → IsOver node most input stop old mid → answer ≡ status_of stop → Adds mid (closing_of stop) new
      → IsFinished node most input answer old new
  finished_at None over is adds = tt
  finished_at (Some bytes) over is adds = (
    record { text = over.0; stop = stop },
    over.1,
    is,
    adds ∙ ap (option_map (λ text. text ++ closing_of stop)) over.2 ∙ two_texts old over.0 (closing_of stop),
  )

  cut_at : (input : Option (List ℕ)) → IsOver node most input stop old mid → WritesFront mid (closing_of stop) new → IsCut node most input old new
  cut_at None over front = inr tt
  cut_at (Some bytes) over front =
      inr (record { text = over.0; stop = stop }, over.1, front_behind over.0 (closing_of stop) old mid new over.2 front)

  closes : (input left : Option (List ℕ)) → IsOver node most input stop old mid → Closes stop answer mid new → Runs node most input left answer old new
  closes input left over (inl c) = record {
    finished = λ none. finished_at input over c.0 c.1;
    read = λ fault. absurd (let e : false ≡ true = sym (no_fault stop) ∙ ap is_fault (sym c.0 ∙ fault) in cc);
    cut = λ fault. absurd (let e : false ≡ true = sym (no_fault stop) ∙ ap is_fault (sym c.0 ∙ fault) in cc);
  }
  closes input left over (inr c) = record {
    finished = λ none. absurd (let e : true ≡ false = ap is_fault (sym c.0) ∙ none in cc);
    read = λ fault. absurd (let e : statuses.WriteFault ≡ statuses.ReadFault = sym c.0 ∙ fault in cc);
    cut = λ fault. cut_at input over c.1;
  }

read_failed : (node : Node) (most : ℕ) (input left : Option (List ℕ)) (answer : Status) (old new : Option (List ℕ))
    → answer ≡ statuses.ReadFault → IsRead node most input left old new → Runs node most input left answer old new
read_failed node most input left answer old new is read = record {
  finished = λ none. absurd (let e : true ≡ false = ap is_fault (sym is) ∙ none in cc);
  read = λ fault. read;
  cut = λ fault. absurd (let e : statuses.ReadFault ≡ statuses.WriteFault = sym is ∙ fault in cc);
}

write_failed : (node : Node) (most : ℕ) (input left : Option (List ℕ)) (answer : Status) (old new : Option (List ℕ))
    → answer ≡ statuses.WriteFault → IsBegun node most input old new → Runs node most input left answer old new
write_failed node most input left answer old new is begun = record {
  finished = λ none. absurd (let e : true ≡ false = ap is_fault (sym is) ∙ none in cc);
  read = λ fault. absurd (let e : statuses.WriteFault ≡ statuses.ReadFault = sym is ∙ fault in cc);
  cut = λ fault. inl begun;
}

-- the run over all that was left, and its closing line
closed_at : (node : Node) (most : ℕ) (input left old mid new : Option (List ℕ)) (end : DriveEnd) (answer : Status)
    → IfSome (stop_of end) (λ stop. IsOver node most input stop old mid)
    → (end ≡ ends.ReadFault → IsRead node most input left old mid)
    → (end ≡ ends.WriteFault → IsBegun node most input old mid)
    → IfSome (stop_of end) (λ stop. Closes stop answer mid new)
    → (IsNone (stop_of end) → (new ≡ mid) × (answer ≡ status_at end))
    → Runs node most input left answer old new
closed_at node most input left old mid new ends.End answer over read begun close fault = closes node most AtEnd answer old mid new input left over close
closed_at node most input left old mid new ends.Max answer over read begun close fault = closes node most AtMost answer old mid new input left over close
closed_at node most input left old mid new (ends.BadLine k) answer over read begun close fault =
    closes node most (AtBadLine k) answer old mid new input left over close
closed_at node most input left old mid new (ends.Alarm kind k) answer over read begun close fault =
    closes node most (AtAlarm kind k) answer old mid new input left over close
closed_at node most input left old mid new ends.LongLine answer over read begun close fault = closes node most AtLongLine answer old mid new input left over close
closed_at node most input left old mid new ends.ReadFault answer over read begun close fault =
    read_failed node most input left answer old new (fault refl).1 (subst (IsRead node most input left old) (sym (fault refl).0) (read refl))
closed_at node most input left old mid new ends.WriteFault answer over read begun close fault =
    write_failed node most input left answer old new (fault refl).1 (subst (IsBegun node most input old) (sym (fault refl).0) (begun refl))

ahead_nothing : (left : Option (List ℕ)) → ahead [] left ≡ left
ahead_nothing None = refl
ahead_nothing (Some bytes) = refl

pub run-closed : (node : Node) (most : ℕ) (held : List ℕ) (input left old mid new : Option (List ℕ)) (end : DriveEnd) (answer : Status)
    → held ≡ []
    → IfSome (stop_of end) (λ stop. IsOver node most (ahead held input) stop old mid)
    → (end ≡ ends.ReadFault → IsRead node most (ahead held input) left old mid)
    → (end ≡ ends.WriteFault → IsBegun node most (ahead held input) old mid)
    → IfSome (stop_of end) (λ stop. Closes stop answer mid new)
    → (IsNone (stop_of end) → (new ≡ mid) × (answer ≡ status_at end))
    → Runs node most input left answer old new
run-closed node most held input left old mid new end answer none over read begun close fault =
    subst (λ bytes. Runs node most bytes left answer old new) ((λ i. ahead (none i) input) ∙ ahead_nothing input)
    (closed_at node most (ahead held input) left old mid new end answer over read begun close fault)
