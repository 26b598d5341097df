-- What the reader's steps come to.
use Rattle.std.proofs.Common.{◌≡◌, ℕ, ◌+◌, ◌*◌, ◌<◌, ◌≤◌, ◌==◌, Bool, true, false, true≢false, List, [], ◌∷◌, ◌++◌, length, take, drop, suc, None, Some, Result, Ok, Err, IfOk, IfErr, refl, sym, ◌∙◌, ap, arith, subst, append_assoc, length-append, All}
use Rattle.std.proofs.lemmas.List.{append-nil}
use Rattle.ls_base.specs.declared.NoMemory.{NoMemory}
use Rattle.line_io.specs.Line.{NoNewline}
use Rattle.step_code.specs.Valid.{first_fault}
use Rattle.step_code.specs.declared.draft.Draft.{Draft}
use Rattle.step_code.specs.declared.parts.Fault.{Fault}
use Rattle.step_code.specs.declared.parts.Fault.TheVariants as fault
use Rattle.step_code.specs.declared.parts.Place.{Place}
use Rattle.step_text.specs.declared.entry.Entry.{Entry}
use Rattle.step_text.specs.declared.fault.CodeFault.{CodeFault}
use Rattle.step_text.specs.declared.fault.CodeFault.TheVariants as code_fault
use Rattle.step_text.specs.declared.reading.Reading.{Reading}
use Rattle.step_text.specs.declared.reading.Stage.{Stage}
use Rattle.step_text.specs.declared.reading.Stage.TheVariants.{Over}
use Rattle.step_text.specs.Entries.{entry_words, text_of}
use Rattle.step_text.specs.Legal.{IsEntry}
use Rattle.step_text.specs.Lines.{line_of, size}
use Rattle.step_text.specs.Next.{Leads, Takes, accepts, draft_at, draft_of, is_over, is_whole, nothing_read}
use Rattle.step_text.specs.Text.{IsJudged, IsReadTo, IsRefused, IsRefusedText, IsTaken, IsWhole, NoNext, NoWords, code_text, fault_at}
use Rattle.step_text.specs.Words.{words_of}
use Rattle.step_text.proofs.Formed.{FewSlots, IsSound, and_left, and_right, sound_formed, sound_next, sound_nothing}
use Rattle.step_text.proofs.LeafLemmas.{empty_word}
use Rattle.step_text.proofs.Sizes.{read_size}
use Rattle.step_text.proofs.TextLemmas.{IsSoFar, line_text, lines_short, none_ends, same_line, so_far_more}
use Rattle.step_text.proofs.WholeText.{HasLines, has_next, has_nothing, whole_lines}

-- ---- one line

pub words_taken : (r : Result Bool NoMemory) (line : List ℕ) (old new : Reading) (e : Entry) → IsEntry e → words_of line ≡ entry_words e → IfOk r (λ t. t ≡ true → Takes old e new)
    → IfOk r (λ t. t ≡ true → (e : Entry) × IsEntry e × (words_of line ≡ entry_words e) × Takes old e new)
words_taken (Ok t) line old new e legal words h = λ k. (e, legal, words, h k)
words_taken (Err x) line old new e legal words h = h

other_refused : (line : List ℕ) (old : Reading) (e : Entry) → ((o : Entry) → IsEntry o → words_of line ≡ entry_words o → Some e ≡ Some o) → accepts old e ≡ false → NoWords old line
other_refused line old e back refused o legal taken words =
    let is : Some e ≡ Some o = back o legal words in
    let same : e ≡ o = cc in
    true≢false (sym taken ∙ ap (accepts old) (sym same) ∙ refused)

pub words_refused : (r : Result Bool NoMemory) (line : List ℕ) (old new : Reading) (e : Entry) → ((o : Entry) → IsEntry o → words_of line ≡ entry_words o → Some e ≡ Some o)
    → IfOk r (λ t. t ≡ false → (accepts old e ≡ false) × (new ≡ old)) → IfOk r (λ t. t ≡ false → NoWords old line × (new ≡ old))
words_refused (Ok t) line old new e back h = λ k. let refused = h k in (other_refused line old e back refused.0, refused.1)
words_refused (Err x) line old new e back h = h

pub words_none : (line : List ℕ) (old : Reading) → ((o : Entry) → IsEntry o → words_of line ≡ entry_words o → None ≡ Some o) → NoWords old line
words_none line old back o legal taken words = let is : None ≡ Some o = back o legal words in cc

pub line_taken : (text : List ℕ) (end : ℕ) (old new : Reading) → text ≡ take end text ++ 10 ∷ drop (end + 1) text
    → (e : Entry) × IsEntry e × (words_of (take end text) ≡ entry_words e) × Takes old e new → IsTaken old text new (drop (end + 1) text)
line_taken text end old new split h = record {
  line = h.0;
  legal = h.1;
  front = split ∙ line_text (take end text) (drop (end + 1) text) h.0 h.2;
  takes = h.3;
}

pub line_refused : (text : List ℕ) (end : ℕ) (old : Reading) → text ≡ take end text ++ 10 ∷ drop (end + 1) text → NoNewline (take end text) → NoWords old (take end text) → NoNext old text
line_refused text end old split quiet refused line more q e =
    subst (NoWords old) (same_line text (take end text) (drop (end + 1) text) line more quiet q split e) refused

pub line_missing : (text : List ℕ) (old : Reading) → NoNewline text → NoNext old text
line_missing text old quiet line more q e = absurd (none_ends text line more quiet e)

-- ---- all lines

pub so_far_taken : (bytes : List ℕ) (old new : Reading) (rest more : List ℕ) (lines : ℕ) → IsTaken old rest new more → IsSoFar bytes old rest lines → IsSoFar bytes new more (lines + 1)
so_far_taken bytes old new rest more lines t so = so_far_more bytes old new rest more lines t.line t.legal t.front t.takes so

pub read_to : (bytes : List ℕ) (r : Reading) (rest : List ℕ) (lines : ℕ) (whole : Bool) → IsSoFar bytes r rest lines → NoNext r rest → whole ≡ is_whole r rest → IsReadTo bytes r lines whole
read_to bytes r rest lines whole so last all = record {
  entries = so.entries;
  rest = rest;
  read = record { legal = so.legal; text = so.text; leads = so.leads; last = last };
  count = so.count;
  is_all = all;
}

-- ---- the code

leads_sound : (old : Reading) (entries : List Entry) (new : Reading) → IsSound old → All IsEntry entries → Leads old entries new → IsSound new
leads_sound old [] new so legal h = subst IsSound h so
leads_sound old (e ∷ entries) new so legal h =
    leads_sound h.0 entries new (sound_next old h.0 e so (legal 0 e (omega arith)) h.1) (λ k d lt. legal (suc k) d (omega arith)) h.2

leads_lines : (done : List Entry) (old : Reading) (entries : List Entry) (new : Reading) → IsSound old → HasLines done old → All IsEntry entries → Leads old entries new → HasLines (done ++ entries) new
leads_lines done old [] new so has legal h = subst (λ (es : List Entry). HasLines es new) (sym (append-nil done)) (subst (HasLines done) h has)
leads_lines done old (e ∷ entries) new so has legal h =
    let more = leads_lines (done ++ e ∷ []) h.0 entries new (sound_next old h.0 e so (legal 0 e (omega arith)) h.1) (has_next old h.0 done e so has h.1) (λ k d lt. legal (suc k) d (omega arith)) h.2 in
    subst (λ (es : List Entry). HasLines es new) (append_assoc done (e ∷ []) entries) more

over_stage : (s : Stage) → is_over s ≡ true → s ≡ Over
over_stage Over h = refl
over_stage _ h = absurd (cc)

module _ (bytes : List ℕ) (r : Reading) (lines : ℕ) (whole : Bool) (to : IsReadTo bytes r lines whole) where
  at_over : whole ≡ true → r.stage ≡ Over
  at_over w = over_stage r.stage (and_right (length to.rest == 0) (is_over r.stage) (sym to.is_all ∙ w))

  none_left : whole ≡ true → to.rest ≡ []
  none_left w = empty_word to.rest (and_left (length to.rest == 0) (is_over r.stage) (sym to.is_all ∙ w))

  sound : IsSound r
  sound = leads_sound nothing_read to.entries r sound_nothing to.read.legal to.read.leads

  long : 3 * length to.entries ≤ length bytes
  long =
      let front = lines_short to.entries in
      let all : length bytes ≡ length (text_of to.entries) + length to.rest = ap length to.read.text ∙ length-append (text_of to.entries) to.rest in
      omega arith

  pub few_lines : length bytes < 4294967295 → lines < 4294967295
  few_lines short =
      let l : 3 * length to.entries ≤ length bytes = long in
      let n : lines ≡ length to.entries = to.count in
      omega arith

  pub small_draft : length bytes < 4294967295 → size (draft_of r) ≤ 4294967290
  small_draft short =
      let l : 3 * length to.entries ≤ length bytes = long in
      let s : size (draft_of r) ≤ length to.entries + 2 = read_size to.entries r to.read.leads in
      omega arith

  pub whole_draft : whole ≡ true → IsWhole (draft_of r)
  whole_draft w =
      let over = at_over w in
      subst (λ (s : Stage). IsWhole (draft_at s r)) (sym over) (record { bodies = refl; main = refl; formed = sound_formed r sound })

  pub whole_text : whole ≡ true → bytes ≡ code_text (draft_of r)
  whole_text w =
      let has = leads_lines [] nothing_read to.entries r sound_nothing has_nothing to.read.legal to.read.leads in
      to.read.text ∙ ap (λ (xs : List ℕ). text_of to.entries ++ xs) (none_left w) ∙ append-nil (text_of to.entries) ∙ ap text_of (whole_lines to.entries r (at_over w) has)

  few_read : whole ≡ true → length r.slots ≤ 1000000
  few_read w = subst (λ (s : Stage). FewSlots s r.slots) (at_over w) sound.few

  pub few_slots : whole ≡ true → length (draft_of r).slots ≤ 1000000
  few_slots w = subst (λ (s : Stage). length (draft_at s r).slots ≤ 1000000) (sym (at_over w)) (few_read w)

  judged_as : (f : CodeFault) → IsJudged whole lines (draft_of r) f → IsJudged (is_whole r to.rest) (length to.entries) (draft_of r) f
  judged_as f h = subst (λ (n : ℕ). IsJudged (is_whole r to.rest) n (draft_of r) f) to.count (subst (λ (w : Bool). IsJudged w lines (draft_of r) f) to.is_all h)

  refused_text : (f : CodeFault) → IsJudged whole lines (draft_of r) f → IsRefusedText bytes f
  refused_text f h = record { entries = to.entries; r = r; rest = to.rest; read = to.read; judged = judged_as f h }

  pub refused : (f : CodeFault) → IsJudged whole lines (draft_of r) f → IsRefused bytes f
  refused code_fault.NoMemory h = h
  refused (code_fault.NotCode line) h = refused_text (code_fault.NotCode line) h
  refused (code_fault.BadSlot line) h = refused_text (code_fault.BadSlot line) h
  refused (code_fault.BadOrder line) h = refused_text (code_fault.BadOrder line) h
  refused (code_fault.BadShape line) h = refused_text (code_fault.BadShape line) h

pub judged_fault : (whole : Bool) (lines : ℕ) (d : Draft) (p : Place) (f : Fault) → first_fault d ≡ Some (p, f) → IsJudged whole lines d (fault_at f (line_of d p))
judged_fault whole lines d p fault.Slot e = (p, e, refl)
judged_fault whole lines d p fault.Order e = (p, e, refl)
judged_fault whole lines d p fault.Shape e = (p, e, refl)

pub ok_more : {X E : Type 0} (P Q : X → Type 0) (r : Result X E) → ((x : X) → P x → Q x) → IfOk r P → IfOk r Q
ok_more P Q (Ok x) k h = k x h
ok_more P Q (Err e) k h = h

pub err_more : {X E : Type 0} (P Q : E → Type 0) (r : Result X E) → ((e : E) → P e → Q e) → IfErr r P → IfErr r Q
err_more P Q (Ok x) k h = h
err_more P Q (Err e) k h = k e h
